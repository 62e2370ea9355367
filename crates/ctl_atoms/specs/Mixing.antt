-- Where a definition mixes codes (icodes, register numbers, statuses) with words of the datapath. Numbers belong to both.
use Rattle.std.specs.Prelude.{ℕ, Bool, true, false, ◌||◌, ◌&&◌, List, [], ◌∷◌, map, Option, Some, None, slice_get}
use Rattle.hcl_types.specs.declared.term.Term.{Term}
use Rattle.hcl_types.specs.declared.term.TermBranch.{TermBranch}
use Rattle.hcl_types.specs.declared.term.Term.TheOpen.{Term-F, TermBranch-F}
use Rattle.hcl_types.specs.declared.term.Term.TheFolds.{fold-Term, fold-TermBranch}
use Rattle.hcl_types.specs.declared.table.Class.{Class}
use Rattle.hcl_types.specs.declared.table.Class.TheVariants as class
use Rattle.hcl_types.specs.declared.table.Row.{Row}
use Rattle.hcl_types.specs.Tables.{is_defined}
use Rattle.ctl_atoms.specs.Rows.{row_term}
use Rattle.ctl_atoms.specs.declared.mixing.InferredSort.{InferredSort}

abbrev pub is_code : Class → Bool
is_code class.Number = false
is_code class.Code = true
is_code class.Value = false
is_code class.Truth = false

abbrev pub is_value : Class → Bool
is_value class.Number = false
is_value class.Code = false
is_value class.Value = true
is_value class.Truth = false

-- a truth is neither
abbrev pub truth_sort : Bool → InferredSort
truth_sort mixed = record { code = false; value = false; mixed = mixed }

abbrev pub row_sort : Option Row → InferredSort
row_sort None = truth_sort false
row_sort (Some row) = record { code = is_code row.class; value = is_value row.class; mixed = false }

-- the sort of several terms together: one of them can be a Code name's value, one a Value name's, one of them mixes the
-- two
abbrev pub either : InferredSort → InferredSort → InferredSort
either s r = record { code = s.code || r.code; value = s.value || r.value; mixed = s.mixed || r.mixed }

abbrev pub any : List InferredSort → InferredSort
any [] = truth_sort false
any (s ∷ ss) = either s (any ss)

-- several terms mix the two: one of them does, or they join one class with the other
abbrev pub joins : InferredSort → Bool
joins s = s.mixed || (s.code && s.value)

abbrev pub guards : List (InferredSort × InferredSort) → List InferredSort
guards bs = map (λ (b : InferredSort × InferredSort). b.0) bs

abbrev pub values : List (InferredSort × InferredSort) → List InferredSort
values bs = map (λ (b : InferredSort × InferredSort). b.1) bs

-- a case list joins the values of all its branches
abbrev pub chosen_sort : Bool → InferredSort → InferredSort
chosen_sort mixed s = record { code = s.code; value = s.value; mixed = mixed || joins s }

-- a comparison joins its two sides, an `in` its left side and all members
abbrev pub sort_layer : List Row → Term-F InferredSort (InferredSort × InferredSort) → InferredSort
sort_layer rows (Term-F.Num n) = truth_sort false
sort_layer rows (Term-F.Name id) = row_sort (slice_get rows id)
sort_layer rows (Term-F.Not s) = truth_sort s.mixed
sort_layer rows (Term-F.And ss) = truth_sort (any ss).mixed
sort_layer rows (Term-F.Or ss) = truth_sort (any ss).mixed
sort_layer rows (Term-F.Cmp o s r) = truth_sort (joins (either s r))
sort_layer rows (Term-F.In s rs) = truth_sort (joins (either s (any rs)))
sort_layer rows (Term-F.Case bs) = chosen_sort (any (guards bs)).mixed (any (values bs))

abbrev pub sort_pair : TermBranch-F InferredSort (InferredSort × InferredSort) → InferredSort × InferredSort
sort_pair b = (b.guard, b.value)

abbrev pub sort : List Row → Term → InferredSort
sort rows = fold-Term InferredSort (InferredSort × InferredSort) (sort_layer rows) sort_pair

abbrev pub branch_sort : List Row → TermBranch → InferredSort × InferredSort
branch_sort rows = fold-TermBranch InferredSort (InferredSort × InferredSort) (sort_layer rows) sort_pair

-- a definition mixes the two: its term does, or its value isn't of its name's class
abbrev pub mixes_as : Class → InferredSort → Bool
mixes_as class s = (s.mixed || (is_code class && s.value)) || (is_value class && s.code)

abbrev pub definition_mixes : List Row → List Term → Option Row → ℕ → Bool
definition_mixes rows terms None n = false
definition_mixes rows terms (Some row) n = is_defined row.role && mixes_as row.class (sort rows (row_term rows terms n))

-- row n is a defined one whose definition mixes Code with Value
unfoldable pub mixes : List Row → List Term → ℕ → Bool
mixes rows terms n = definition_mixes rows terms (slice_get rows n) n
