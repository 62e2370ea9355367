-- Kinds of HCL: where a term may be used as a word, and where as a Boolean.
use Rattle.std.specs.Prelude.{Bool, true, false, ◌&&◌, not, List, nat_lt, slice_get, Option, Some, None}
use Rattle.hcl_types.specs.declared.term.Term.{Term}
use Rattle.hcl_types.specs.declared.term.TermBranch.{TermBranch}
use Rattle.hcl_types.specs.declared.term.Term.TheOpen.{Term-F, TermBranch-F}
use Rattle.hcl_types.specs.declared.term.Term.TheFolds.{fold-Term, fold-TermBranch}
use Rattle.hcl_types.specs.declared.kinds.Kinds.{Kinds}
use Rattle.hcl_types.specs.declared.table.Class.{Class}
use Rattle.hcl_types.specs.declared.table.Class.TheVariants as class
use Rattle.hcl_types.specs.declared.table.Row.{Row}
use Rattle.hcl_types.specs.Lists.{each}

-- a Boolean signal is only a Boolean; every other name is only a word, also a constant 0 or 1
abbrev pub is_truth : Class → Bool
is_truth class.Number = false
is_truth class.Code = false
is_truth class.Value = false
is_truth class.Truth = true

abbrev pub kinds_of_row : Option Row → Kinds
kinds_of_row None = record { word = false; truth = false }
kinds_of_row (Some row) = record { word = not (is_truth row.class); truth = is_truth row.class }

-- the numbers 0 and 1 may be either
abbrev pub kinds_in_layer : List Row → Term-F Kinds (Kinds × Kinds) → Kinds
kinds_in_layer rows (Term-F.Num n) = record { word = true; truth = nat_lt n 2 }
kinds_in_layer rows (Term-F.Name id) = kinds_of_row (slice_get rows id)
kinds_in_layer rows (Term-F.Not x) = record { word = false; truth = x.truth }
kinds_in_layer rows (Term-F.And xs) = record { word = false; truth = each (λ (x : Kinds). x.truth) xs }
kinds_in_layer rows (Term-F.Or xs) = record { word = false; truth = each (λ (x : Kinds). x.truth) xs }
kinds_in_layer rows (Term-F.Cmp o x y) = record { word = false; truth = x.word && y.word }
kinds_in_layer rows (Term-F.In x ys) = record { word = false; truth = x.word && each (λ (y : Kinds). y.word) ys }
kinds_in_layer rows (Term-F.Case branches) = record { word = each (λ (b : Kinds × Kinds). b.0.truth && b.1.word) branches; truth = false }

abbrev pub kinds_of_branch : TermBranch-F Kinds (Kinds × Kinds) → Kinds × Kinds
kinds_of_branch branch = (branch.guard, branch.value)

abbrev pub kinds : List Row → Term → Kinds
kinds rows = fold-Term Kinds (Kinds × Kinds) (kinds_in_layer rows) kinds_of_branch

abbrev pub branch_kinds : List Row → TermBranch → Kinds × Kinds
branch_kinds rows = fold-TermBranch Kinds (Kinds × Kinds) (kinds_in_layer rows) kinds_of_branch

-- a term may be the body of a row of the class
abbrev pub has_class : List Row → Class → Term → Bool
has_class rows class.Truth t = (kinds rows t).truth
has_class rows class.Number t = (kinds rows t).word
has_class rows class.Code t = (kinds rows t).word
has_class rows class.Value t = (kinds rows t).word
