-- If an obligation is false, one of its requirements isn't met; and facts about the datapaths' tables and fields.
use Rattle.std.proofs.Common.{◌≡◌, ℕ, ◌≤◌, Bool, false, List, map, sym, ◌∙◌, arith}
use Rattle.y86_base.specs.declared.parts.Variant.{Variant}
use Rattle.hcl_types.specs.declared.term.Term.{Term}
use Rattle.ctl_atoms.specs.declared.leaf.Leaf.{Leaf}
use Rattle.ctl_atoms.specs.Leaves.{Assignment}
use Rattle.control_values.specs.Given.{AreNear}
use Rattle.net_fields.specs.FieldSpecs.{total}
use Rattle.findings.specs.Findings.{are_right, finding}
use Rattle.findings.proofs.EachMet.{demand_false, findings_right}
use Rattle.seq_check.specs.Datapaths.{allowed_of, defined_of, demand_of, spots_of}
use Rattle.seq_requirements.specs.Requirements.{requirements}
use Rattle.hcl_types.specs.declared.table.SequentialDatapath.{SequentialDatapath}
use Rattle.hcl_types.specs.declared.table.SequentialDatapath.TheVariants.{Seq, SeqPlus}
use Rattle.seq_requirements.proofs.ByRequirements.{by_requirements}
use Rattle.seq_diagnosis.specs.Diagnosis.{asks_at, numbers_at}
pub use Rattle.seq_plus.specs.Sound.{sound_of as sound}

pub near : (which : SequentialDatapath) → AreNear (spots_of which)
near Seq = record { few = (omega arith, (omega arith, (omega arith, (omega arith, (omega arith, (omega arith, (omega arith, tt))))))); near = omega arith }
near SeqPlus = record { few = (omega arith, (omega arith, (omega arith, (omega arith, (omega arith, (omega arith, (omega arith, (omega arith, (omega arith, tt))))))))); near = omega arith }

pub first_near : (which : SequentialDatapath) → total (spots_of which) ≤ 1000
first_near which = (near which).near

pub one_wrong : (which : SequentialDatapath) (v : Variant) (terms : List Term) (i : ℕ) (w : List Bool) (α : Assignment) (cv : ℕ → Leaf) → asks_at which v i w α cv ≡ false →
    are_right (map (finding (defined_of which) terms α cv) (requirements which v (numbers_at which w) i)) ≡ false
one_wrong which v terms i w α cv e =
    let xs = numbers_at which w in
    findings_right (defined_of which) terms α cv (requirements which v xs i)
    ∙ (sym (by_requirements α cv which v xs i) ∙ demand_false (allowed_of which v xs) (demand_of which v i xs α cv) e)
