-- How often each output is 1.
use Rattle.std.specs.Prelude.{◌≡◌, ℕ, zero, suc, ◌+◌, ◌<◌, Bool, if◌then◌else◌, List, [], length, get_or}
use Rattle.lane_eval.specs.Lanes.{across, lane_bit}
use Rattle.nets.specs.Nets.{Gates, truth}
use Rattle.aiger_run.specs.Vectors.{vector}

-- how many numbers below a bound pass a test
unfoldable pub count_below : (ℕ → Bool) → ℕ → ℕ
count_below test zero = 0
count_below test (suc n) = count_below test n + (if test n then 1 else 0)

-- for each gate, at how many of the vectors 0 to 511 it is true
pub record AreCounts (net : Gates) (gates : List ℕ) (seed : ℕ) (counts : List ℕ) : Type 0 where
  pub size : length counts ≡ length gates
  pub each : (i : ℕ) → i < length gates → get_or counts i 0 ≡ count_below (λ p. truth net (get_or gates i 0) (vector seed p net.vars)) 512

-- the counts of the first `count` gates, from their vectors
pub record AreCounted (scratch : List (List ℕ)) (gates : List ℕ) (count : ℕ) (counts : List ℕ) : Type 0 where
  pub size : length counts ≡ count
  pub each : (i : ℕ) → i < count → get_or counts i 0 ≡ count_below (λ p. lane_bit p (get_or scratch (get_or gates i 0) [])) 512

-- for each gate, in how many of 512 places it is true; each place has a valuation of the variables
pub record AreCountsAt (net : Gates) (gates : List ℕ) (lanes : List (List ℕ)) (counts : List ℕ) : Type 0 where
  pub size : length counts ≡ length gates
  pub each : (i : ℕ) → i < length gates → get_or counts i 0 ≡ count_below (λ p. truth net (get_or gates i 0) (across p lanes)) 512
