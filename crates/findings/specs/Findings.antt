-- Findings on signals at a valuation. The definitions are those of the rows from a first one on.
use Rattle.std.specs.Prelude.{ℕ, ◌-◌, Bool, List, Option, slice_get}
use Rattle.std.specs.Option.{option_and_then}
use Rattle.hcl_types.specs.Lists.{each}
use Rattle.hcl_types.specs.declared.term.Term.{Term}
use Rattle.ctl_atoms.specs.declared.leaf.Leaf.{Leaf}
use Rattle.ctl_atoms.specs.Leaves.{Assignment}
use Rattle.control_values.specs.Given.{taken}
use Rattle.findings.specs.Requirements.{is_met}
use Rattle.findings.specs.declared.finding.Finding.{Finding}
use Rattle.findings.specs.declared.requirement.Requirement.{Requirement}

-- the case that the definition of a signal takes, counted from 0
abbrev pub case_of : ℕ → List Term → Assignment → (ℕ → Leaf) → ℕ → Option ℕ
case_of defined terms α cv id = option_and_then (taken α cv) (slice_get terms (id - defined))

-- what a requirement demands of a signal, what the file picks, whether that is right, and by which case
abbrev pub finding : ℕ → List Term → Assignment → (ℕ → Leaf) → Requirement → Finding
finding defined terms α cv requirement = record {
  requirement = requirement;
  picked = cv requirement.signal;
  is_right = is_met α cv requirement;
  taken_case = case_of defined terms α cv requirement.signal;
}

abbrev pub are_right : List Finding → Bool
are_right findings = each (λ (f : Finding). f.is_right) findings
