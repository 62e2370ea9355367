-- Counts of places.
use Rattle.std.proofs.Common.{◌≡◌, ℕ, zero, suc, ◌+◌, ◌<◌, ◌≤◌, Bool, true, false, if◌then◌else◌, List, [], length, get_or, refl, sym, ap, ◌∙◌, arith, add-one}
use Rattle.std.proofs.lemmas.List.{get_or-map}
use Rattle.lane_eval.specs.Lanes.{across, lane_bit}
use Rattle.nets.specs.Nets.{Gates, truth, truths}
use Rattle.aiger_run.specs.Counts.{AreCounted, AreCounts, AreCountsAt, count_below}
use Rattle.aiger_run.specs.Vectors.{vector}

pub count_none : (test : ℕ → Bool) → 0 ≡ count_below test 0
unfolding count_below
count_none test = refl

next_count : (test : ℕ → Bool) (n : ℕ) → count_below test (n + 1) ≡ count_below test n + (if test n then 1 else 0)
unfolding count_below
next_count test n = rw add-one refl

pub count_yes : (test : ℕ → Bool) (n old : ℕ) → old ≡ count_below test n → test n ≡ true → old + 1 ≡ count_below test (n + 1)
count_yes test n old e t = ap (λ (m : ℕ). m + 1) e ∙ (sym (ap (λ (b : Bool). count_below test n + (if b then 1 else 0)) t) ∙ sym (next_count test n))

pub count_no : (test : ℕ → Bool) (n old : ℕ) → old ≡ count_below test n → test n ≡ false → old ≡ count_below test (n + 1)
count_no test n old e t =
    let s : count_below test n + 0 ≡ count_below test n = omega arith in
    e ∙ (sym s ∙ (sym (ap (λ (b : Bool). count_below test n + (if b then 1 else 0)) t) ∙ sym (next_count test n)))

pub count_within : (test : ℕ → Bool) (n : ℕ) → count_below test n ≤ n
unfolding count_below
count_within test zero = omega arith
count_within test (suc n) = let e = count_within test n in one (test n) (count_below test n) e
  where
    one : (b : Bool) (m : ℕ) → m ≤ n → m + (if b then 1 else 0) ≤ suc n
    one true m l = omega (arith, l)
    one false m l = omega (arith, l)

-- the same tests below a bound have the same count
pub same_count : (f g : ℕ → Bool) (n : ℕ) → ((p : ℕ) → p < n → f p ≡ g p) → count_below f n ≡ count_below g n
unfolding count_below
same_count f g zero e = refl
same_count f g (suc n) e =
    ap (λ (m : ℕ). m + (if f n then 1 else 0)) (same_count f g n (λ p l. e p (omega (arith, l)))) ∙ ap (λ (b : Bool). count_below g n + (if b then 1 else 0)) (e n (omega arith))

-- the bit in a place of a gate's vector is its truth at the valuation in that place
place_is : (net : Gates) (lanes scratch : List (List ℕ)) (g p : ℕ) → g < length scratch → across p scratch ≡ truths net (across p lanes)
    → lane_bit p (get_or scratch g []) ≡ truth net g (across p lanes)
unfolding truth
place_is net lanes scratch g p l e = sym (get_or-map (lane_bit p) scratch g [] false l) ∙ ap (λ (xs : List Bool). get_or xs g false) e

pub counts_at : (net : Gates) (gates : List ℕ) (lanes scratch : List (List ℕ)) (counts : List ℕ) → length scratch ≡ length net.gates
    → ((i : ℕ) → i < length gates → get_or gates i 0 < length net.gates)
    → ((p : ℕ) → p < 512 → across p scratch ≡ truths net (across p lanes)) → AreCounted scratch gates (length gates) counts → AreCountsAt net gates lanes counts
counts_at net gates lanes scratch counts made inside run a = record {
  size = a.size;
  each = λ i l. a.each i l ∙ same_count (λ p. lane_bit p (get_or scratch (get_or gates i 0) [])) (λ p. truth net (get_or gates i 0) (across p lanes)) 512
      (λ p low. place_is net lanes scratch (get_or gates i 0) p (omega (arith, inside i l, made)) (run p low));
}

pub counts_of_vectors : (net : Gates) (gates : List ℕ) (lanes : List (List ℕ)) (seed : ℕ) (counts : List ℕ) → AreCountsAt net gates lanes counts
    → ((p : ℕ) → p < 512 → across p lanes ≡ vector seed p net.vars) → AreCounts net gates seed counts
counts_of_vectors net gates lanes seed counts a vectors = record {
  size = a.size;
  each = λ i l. a.each i l ∙ same_count (λ p. truth net (get_or gates i 0) (across p lanes)) (λ p. truth net (get_or gates i 0) (vector seed p net.vars)) 512
      (λ p low. ap (truth net (get_or gates i 0)) (vectors p low));
}

pub counted_none : (scratch : List (List ℕ)) (gates : List ℕ) → AreCounted scratch gates 0 []
counted_none scratch gates = record { size = refl; each = λ i l. absurd (omega (arith, l)) }
