-- The fault of a text that is no HCL file.
use Rattle.std.proofs.Common.{◌≡◌, ◌≢◌, ℕ, List, inl, inr}
use Rattle.hcl_read.specs.declared.fault.HclFault.{HclFault}
use Rattle.hcl_read.specs.declared.fault.HclWhy.TheVariants as whys
use Rattle.hcl_read.specs.Read.{IsFault, IsReadFault}

pub is_fault : (text : List ℕ) (fault : HclFault) → IsReadFault text fault → fault.why ≢ whys.Memory → IsFault text fault
is_fault text fault (inl memory) other = absurd (other memory.0)
is_fault text fault (inr f) other = f
