-- Lists of faults that have a fault on a given line.
use Rattle.std.proofs.Common.{◌≡◌, ◌<◌, ◌++◌, ◌∷◌, [], ℕ, List, get_or, length}
use Rattle.std.proofs.lemmas.List.Elements.{Contains-push}
use Rattle.std.proofs.lemmas.List.Sorted.{Contains-permutation}
use Rattle.std.specs.List.Sorted.{IsPermutation}
use Rattle.fault_report.specs.Told.{IsTold}
use Rattle.fault_report.specs.declared.facts.Fault.{Fault}

pub told_at : (faults : List Fault) (line i : ℕ) (x : Fault) → i < length faults → get_or faults i x ≡ x → x.line ≡ line → IsTold line faults
told_at faults line i x lt at e = record { fault = x; there = (i, lt, at); place = e }

pub told_last : (faults : List Fault) (line : ℕ) (x : Fault) → x.line ≡ line → IsTold line (faults ++ x ∷ [])
told_last faults line x e = record { fault = x; there = Contains-push faults x; place = e }

pub told_again : (xs ys : List Fault) (line : ℕ) → IsPermutation xs ys → IsTold line xs → IsTold line ys
told_again xs ys line p told = record { fault = told.fault; there = Contains-permutation xs ys told.fault p told.there; place = told.place }
