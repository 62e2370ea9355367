-- Fetches that come too soon after a store.
use Rattle.std.specs.Prelude.{◌≡◌, ◌≢◌, ◌⊎◌, ◌↔◌, ℕ, ◌+◌, ◌-◌, ◌<◌, ◌≤◌, Bool, true, false, List, length, Option, Some}
use Rattle.yis_pure_runs.specs.Near.{NearPure}
use Rattle.yis_pure_runs.specs.Purity.{AvoidsStore}
use Rattle.y86_base.specs.declared.parts.Stat.TheVariants.{Aok}
use Rattle.y86_base.specs.declared.parts.Variant.{Variant}
use Rattle.y86_isa.specs.Run.{records, run}
use Rattle.y86_isa.specs.Step.{retired}
use Rattle.y86_isa.specs.declared.machine.Machine.{Machine}
use Rattle.y86_isa.specs.declared.machine.Rec.{Rec}
use Rattle.y86_isa.specs.declared.machine.Store.{Store}
use Rattle.program_check.specs.declared.recent.NearFetch.{NearFetch}
use Rattle.program_check.specs.declared.recent.Recent.{Recent}
use Rattle.program_check.specs.declared.watching.Watched.{Watched}
use Rattle.program_check.specs.declared.watching.Watched.TheVariants.{Apart, Meets}

-- if the record has a store, it is apart from the instruction at a machine's PC
abbrev pub StoredApart : Variant → Machine → Option Rec → Type 0
StoredApart v m told = (r : Rec) (store : Store) → told ≡ Some r → r.store ≡ Some store → AvoidsStore v m store

-- an instruction at the address storer stored at the address store, and that isn't apart from the instruction at a
-- machine's PC
pub record StoredInto (v : Variant) (m : Machine) (told : Option Rec) (storer store : ℕ) : Type 0 where
  pub by : Rec
  pub word : Store
  pub told_by : told ≡ Some by
  pub stored : by.store ≡ Some word
  pub storer_is : storer ≡ by.pc
  pub store_is : store ≡ word.addr
  pub meets : AvoidsStore v m word → ⊥

-- the nearest of the last three steps with a store that isn't apart from the instruction; all nearer stores are apart
-- from it
abbrev pub IsNearest : Variant → Machine → Recent → NearFetch → Type 0
IsNearest v m recent f =
    ((f.distance ≡ 1) × StoredInto v m recent.last f.storer f.store)
    ⊎ ((f.distance ≡ 2) × StoredApart v m recent.last × StoredInto v m recent.second f.storer f.store)
    ⊎ ((f.distance ≡ 3) × StoredApart v m recent.last × StoredApart v m recent.second × StoredInto v m recent.third f.storer f.store)

-- The first instruction that fetches a byte which one of the three before it stored. `steps` instructions precede it,
-- and the nearest instruction that stored such a byte is `distance` steps before it. `pc` and `storer` are the
-- addresses of the two, and the store begins at `store`.
pub record IsFirstNear (v : Variant) (image : List ℕ) (f : NearFetch) : Type 0 where
  pub earlier : NearPure v image f.steps
  pub goes_on : (run v image f.steps).stat ≡ Aok
  pub pc : f.pc ≡ (run v image f.steps).pc
  pub some : 1 ≤ f.distance
  pub at_most : f.distance ≤ 3
  pub inside : f.distance ≤ f.steps
  pub into : StoredInto v (run v image f.steps) (retired v (run v image (f.steps - f.distance))) f.storer f.store
  pub nearest : (j : ℕ) → f.steps < j + f.distance → j < f.steps → StoredApart v (run v image f.steps) (retired v (run v image j))

-- None of the first `steps` instructions fetches a byte that one of the three before it stored. After them, either the
-- program has stopped, and then this holds however long it runs; or it has not stopped, and `steps` is the limit.
pub record IsApart (v : Variant) (image : List ℕ) (limit steps : ℕ) (stopped : Bool) : Type 0 where
  pub within : steps ≤ limit
  pub count : length (records v image steps) ≡ steps
  pub end : (stopped ≡ true) ↔ ((run v image steps).stat ≢ Aok)
  pub whole : stopped ≡ false → steps ≡ limit
  pub near : NearPure v image steps
  pub near_on : stopped ≡ true → (k : ℕ) → NearPure v image k

-- the result of watching a program for at most `limit` steps
abbrev pub IsWatched : Variant → List ℕ → ℕ → Watched → Type 0
IsWatched v image limit (Apart steps stopped) = IsApart v image limit steps stopped
IsWatched v image limit (Meets f) = (f.steps < limit) × IsFirstNear v image f
