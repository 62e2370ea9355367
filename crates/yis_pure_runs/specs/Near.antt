-- Programs that may write their own code, but never the instructions that are fetched next.
use Rattle.std.specs.Prelude.{◌≡◌, ℕ, ◌+◌, ◌<◌, ◌≤◌, List, Some}
use Rattle.y86_base.specs.declared.parts.Stat.TheVariants.{Aok}
use Rattle.y86_base.specs.declared.parts.Variant.{Variant}
use Rattle.y86_isa.specs.declared.machine.Rec.{Rec}
use Rattle.y86_isa.specs.declared.machine.Store.{Store}
use Rattle.y86_isa.specs.Step.{retired}
use Rattle.y86_isa.specs.Run.{IsFetched, IsStoredBy, run}
use Rattle.yis_pure_runs.specs.Purity.{AvoidsStore}

-- no instruction among the first n fetches a byte that one of the three before it stored: while an instruction is
-- fetched, these three may be in D, E and M, and those before them have stored
abbrev pub NearPure : Variant → List ℕ → ℕ → Type 0
NearPure v image n =
    (i j address : ℕ) → i < n → j < i → i ≤ j + 3 → (run v image i).stat ≡ Aok → IsFetched v (run v image i).mem (run v image i).pc address →
    IsStoredBy (retired v (run v image j)) address → ⊥

-- each store of an instruction is apart from the bytes of each of the three instructions after it
abbrev pub StoresNearlyApart : Variant → List ℕ → ℕ → Type 0
StoresNearlyApart v image n =
    (i j : ℕ) (r : Rec) (store : Store) → i < n → j < i → i ≤ j + 3 → (run v image i).stat ≡ Aok →
    retired v (run v image j) ≡ Some r → r.store ≡ Some store → AvoidsStore v (run v image i) store
