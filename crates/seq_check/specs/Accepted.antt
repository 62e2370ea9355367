-- What a checked HCL file for SEQ+ promises: it meets the obligations, and its runs are runs of instructions.
use Rattle.std.specs.Prelude.{◌≡◌, ℕ, ◌≤◌, true, List}
use Rattle.y86_base.specs.declared.parts.Variant.{Variant}
use Rattle.y86_isa.specs.Run.{IsImage, run, records}
use Rattle.y86_isa.specs.declared.machine.Machine.{Machine}
use Rattle.y86_isa.specs.declared.machine.Rec.{Rec}
use Rattle.hcl_types.specs.declared.term.Term.{Term}
use Rattle.ctl_atoms.specs.Leaves.{Assignment}
use Rattle.ctl_atoms.specs.declared.leaf.Leaf.{Leaf}
use Rattle.ctl_equations.specs.Controls.{AreControls}
use Rattle.seq_obligations.specs.Obligations.{rule_count}
use Rattle.net_fields.specs.FieldSpecs.{InRange}
use Rattle.seq_plus.specs.PlusRun.{PlusRun, PlusEndIs}
use Rattle.seq_plus.specs.PlusTable.{plus_rows}
use Rattle.seq_plus.specs.declared.state.PlusState.{PlusState}
use Rattle.seq_check.specs.Fields.{Fields, number_of, numbers, spots}
use Rattle.seq_check.specs.Obligations.{obligation}

-- each of the 16 obligations holds at every control valuation of the design: at all lines of fields, under every truth
-- of the atoms, with the control values that the design's terms then have
pub record AcceptedPlus (v : Variant) (terms : List Term) : Type 0 where
  pub holds : (i : ℕ) (c : Fields) (α : Assignment) (cv : ℕ → Leaf) → 1 ≤ i → i ≤ rule_count → InRange spots (numbers c) →
      AreControls plus_rows terms (number_of c) α cv → obligation v i c α cv ≡ true

-- on every image and for every number of cycles, the machine reported at the design's end is that of the
-- instruction-level run, in all registers, flags, memory, PC and status, and its records are that run's
pub record RefinesPlus (v : Variant) (terms : List Term) : Type 0 where
  pub machine : (image : List ℕ) (k : ℕ) (t : PlusState) (rs : List Rec) (end : Machine) → IsImage image → PlusRun v terms image k t rs → PlusEndIs v terms t end → end ≡ run v image k
  pub told : (image : List ℕ) (k : ℕ) (t : PlusState) (rs : List Rec) → IsImage image → PlusRun v terms image k t rs → rs ≡ records v image k
