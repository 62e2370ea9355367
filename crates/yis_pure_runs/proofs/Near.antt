-- If no instruction fetches what one of the three before it stored, it could be fetched up to three steps early.
use Rattle.std.proofs.Common.{◌≡◌, ℕ, zero, suc, ◌+◌, ◌-◌, ◌<◌, ◌≤◌, List, slice_get, sym, ap, ◌∙◌, arith}
use Rattle.y86_base.specs.Image.{IsImage}
use Rattle.y86_base.specs.declared.parts.Stat.TheVariants.{Aok}
use Rattle.y86_base.specs.declared.parts.Variant.{Variant}
use Rattle.y86_isa.specs.Blocks.{fetched}
use Rattle.y86_isa.specs.Machine.{start}
use Rattle.y86_isa.specs.Run.{IsFetched, Pure, SameFetch, run}
use Rattle.y86_isa.specs.Step.{retired}
use Rattle.y86_isa.proofs.Images.{IsImage-run_from, length-run_from}
use Rattle.y86_isa.proofs.ReadAlike.{fetched-same}
use Rattle.y86_isa.proofs.Runs.{run_from-last}
use Rattle.y86_isa.proofs.Steps.{mem-advance}
use Rattle.yis_pure_runs.specs.Near.{NearPure, StoresNearlyApart}
use Rattle.yis_pure_runs.proofs.Purity.{pair_apart, pair_pure}

-- a pure image is nearly pure, also for fewer steps
pub near_from_pure : (v : Variant) (image : List ℕ) (n : ℕ) → Pure v image n → NearPure v image n
near_from_pure v image n pure i j address within earlier near on fetched stored = pure i j address within earlier on fetched stored

pub near_fewer : (v : Variant) (image : List ℕ) (n k : ℕ) → k ≤ n → NearPure v image n → NearPure v image k
near_fewer v image n k le pure i j address within = pure i j address (omega arith)

-- near purity from stores apart from the code, and conversely
pub near_apart : (v : Variant) (image : List ℕ) (n : ℕ) → StoresNearlyApart v image n → NearPure v image n
near_apart v image n apart i j address within earlier near on fetched stored =
    pair_pure v (run v image i) (retired v (run v image j)) address (λ r s told is. apart i j r s within earlier near on told is) fetched stored

pub apart_near : (v : Variant) (image : List ℕ) (n : ℕ) → NearPure v image n → StoresNearlyApart v image n
apart_near v image n pure i j r s within earlier near on told is =
    pair_apart v image i j r s (λ address fetched stored. pure i j address within earlier near on fetched stored) told is

-- ---- the fetched bytes are in memory three steps before
same_byte : (v : Variant) (image : List ℕ) (n i address : ℕ) → NearPure v image n → i < n → (run v image i).stat ≡ Aok →
    IsFetched v (run v image i).mem (run v image i).pc address → (d j : ℕ) → j + d ≡ i → i ≤ j + 3 →
    slice_get (run v image j).mem address ≡ slice_get (run v image i).mem address
same_byte v image n i address pure lt aok at zero j e near = ap (λ k. slice_get (run v image k).mem address) (omega arith)
same_byte v image n i address pure lt aok at (suc d) j e near =
    sym (ap (λ m. slice_get m.mem address) (run_from-last v (start image) j)
    ∙ mem-advance v (run v image j) address (pure i j address lt (omega arith) near aok at))
    ∙ same_byte v image n i address pure lt aok at d (j + 1) (omega arith) (omega arith)

pub same_fetch : (v : Variant) (image : List ℕ) (n i j : ℕ) → IsImage image → NearPure v image n → i < n → j ≤ i → i ≤ j + 3 →
    (run v image i).stat ≡ Aok → SameFetch v (run v image i).mem (run v image j).mem (run v image i).pc
same_fetch v image n i j h pure lt le near aok =
    record {
      sized = (IsImage-run_from v (start image) i h).sized;
      size = length-run_from v (start image) j ∙ sym (length-run_from v (start image) i);
      bytes = λ address at. same_byte v image n i address pure lt aok at (i - j) j (omega arith) near;
    }

pub fetched_near : (v : Variant) (image : List ℕ) (n i j : ℕ) → IsImage image → NearPure v image n → i < n → j ≤ i → i ≤ j + 3 →
    (run v image i).stat ≡ Aok → fetched v (run v image j).mem (run v image i).pc ≡ fetched v (run v image i).mem (run v image i).pc
fetched_near v image n i j h pure lt le near aok =
    fetched-same v (run v image i).mem (run v image j).mem (run v image i).pc (same_fetch v image n i j h pure lt le near aok)
