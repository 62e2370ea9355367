-- The results of the stages that commands share.
use Rattle.std.proofs.Common.{◌≡◌, ◌≢◌, ℕ, List, refl, inl, inr}
use Rattle.std.specs.Borrow.{Bor}
use Rattle.cli_plans.specs.declared.stop_reason.InputFault.TheVariants.{AtPlace}
use Rattle.cli_plans.specs.declared.stop_reason.StopReason.TheVariants.{Refused}
use Rattle.cli_plans.specs.Designs.{RefusesHcl}
use Rattle.cli_plans.specs.Lines.{hcl_reason}
use Rattle.cli_plans.specs.Stops.{answer_at}
use Rattle.hcl_read.specs.Read.{IsReadFault}
use Rattle.hcl_read.specs.declared.fault.HclFault.{HclFault}
use Rattle.hcl_read.specs.declared.fault.HclWhy.TheVariants as whys

-- an HCL text that is refused has a fault, and its line reports the fault
pub hcl_refused : (name why : Bor (List ℕ)) (text : List ℕ) (fault : HclFault) → fault.why ≢ whys.Memory → IsReadFault text fault → why.now ≡ hcl_reason fault.why →
    RefusesHcl name.now text (answer_at (Refused name (AtPlace fault.line fault.col why)))
hcl_refused name why text fault other (inl memory) reason = absurd (other memory.0)
hcl_refused name why text fault other (inr is) reason = (fault, is, rw reason refl)
