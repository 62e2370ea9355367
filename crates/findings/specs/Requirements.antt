-- What is required of signals, and when a signal meets it.
use Rattle.std.specs.Prelude.{ℕ, Bool, false, List, [], ◌∷◌, Option, Some, None, if◌then◌else◌}
use Rattle.ctl_atoms.specs.declared.leaf.Leaf.{Leaf}
use Rattle.ctl_atoms.specs.declared.leaf.Leaf.TheVariants.{Number}
use Rattle.ctl_atoms.specs.Leaves.{Assignment}
use Rattle.ctl_rules.specs.ColumnDemands.{picks_leaf, is_truth}
use Rattle.findings.specs.declared.requirement.Requirement.{Requirement}
use Rattle.findings.specs.declared.requirement.Wanted.{Wanted}
use Rattle.findings.specs.declared.requirement.Wanted.TheVariants as wanted

-- whether a signal has the wanted value
abbrev pub meets : Assignment → (ℕ → Leaf) → ℕ → Wanted → Bool
meets α cv name (wanted.Word leaf) = picks_leaf cv name leaf
meets α cv name (wanted.Truth b) = is_truth α cv name b
meets α cv name wanted.Nothing = false

abbrev pub is_met : Assignment → (ℕ → Leaf) → Requirement → Bool
is_met α cv requirement = meets α cv requirement.signal requirement.wanted

-- ---- lists of requirements

abbrev pub requirement_of : ℕ → Wanted → Requirement
requirement_of name w = record { signal = name; wanted = w }

abbrev pub word : ℕ → Leaf → List Requirement
word name leaf = requirement_of name (wanted.Word leaf) ∷ []

abbrev pub number : ℕ → ℕ → List Requirement
number name n = word name (Number n)

abbrev pub truth : ℕ → Bool → List Requirement
truth name b = requirement_of name (wanted.Truth b) ∷ []

abbrev pub some_word : ℕ → Option Leaf → List Requirement
some_word name None = []
some_word name (Some leaf) = word name leaf

abbrev pub only_if : Bool → List Requirement → List Requirement
only_if b xs = if b then xs else []

abbrev pub unless : Bool → List Requirement → List Requirement
unless b xs = if b then [] else xs
