-- One more gate in each place.
use Rattle.std.proofs.Common.{◌≡◌, ℕ, ◌+◌, ◌<◌, Bool, false, List, [], ◌∷◌, ◌++◌, map, length, take, drop, set, get_or, slice_get, Some, sym, ap, ◌∙◌, arith}
use Rattle.std.proofs.lemmas.List.{take_more_set, map-append, get_or-map, take_all, take-append-le}
use Rattle.nets.specs.Nets.{Gates, values, truth, truths, gate_value}
use Rattle.nets.specs.declared.net.Gate.{Gate}
use Rattle.nets.proofs.Truths.{values_more, truth_last}
use Rattle.lane_eval.specs.Lanes.{across, lane_bit}

-- the entry of a place
pub across_at : (p : ℕ) (vs : List (List ℕ)) (i : ℕ) → i < length vs → get_or (across p vs) i false ≡ lane_bit p (get_or vs i [])
across_at p vs i h = get_or-map (lane_bit p) vs i [] false h

-- one more gate is filled
pub filled_more : (p : ℕ) (w : List Bool) (vs : List (List ℕ)) (v : List ℕ) (gates : List Gate) (i : ℕ) (gate : Gate)
    → slice_get gates i ≡ Some gate → i < length gates → i < length vs
    → across p (take i vs) ≡ values w [] (take i gates)
    → lane_bit p v ≡ gate_value w (across p (take i vs)) gate
    → across p (take (i + 1) (set vs i v)) ≡ values w [] (take (i + 1) gates)
filled_more p w vs v gates i gate is h room told made =
    ap (across p) (take_more_set vs i v room)
    ∙ (map-append (lane_bit p) (take i vs) (v ∷ [])
    ∙ (ap (λ (xs : List Bool). xs ++ lane_bit p v ∷ []) told
    ∙ (ap (λ (b : Bool). values w [] (take i gates) ++ b ∷ []) (made ∙ ap (λ (xs : List Bool). gate_value w xs gate) told)
    ∙ sym (values_more w gates i gate is h))))

-- a slice of a vector that was borrowed whole and returned
pub lent : {A : Type 0} (n : ℕ) (new old : List A) → length new ≡ n → take n (new ++ drop (length new) old) ≡ new
lent n new old size = take-append-le n new (drop (length new) old) (omega (arith, size)) ∙ take_all n new (omega (arith, size))

-- all gates are filled
pub filled_all : (n : Gates) (w : List Bool) (p : ℕ) (vs : List (List ℕ)) (k : ℕ) → k ≡ length n.gates → length vs ≡ length n.gates
    → across p (take k vs) ≡ values w [] (take k n.gates) → across p vs ≡ truths n w
unfolding truths
filled_all n w p vs k all size told =
    sym (ap (across p) (take_all k vs (omega (arith, all, size)))) ∙ (told ∙ ap (values w []) (take_all k n.gates (omega (arith, all))))

-- the last gate comes from those before it
pub filled_last : (n : Gates) (w : List Bool) (p : ℕ) (vs : List (List ℕ)) (i : ℕ) (gate : Gate) (b : Bool)
    → slice_get n.gates i ≡ Some gate → i < length n.gates → across p (take i vs) ≡ values w [] (take i n.gates)
    → b ≡ gate_value w (across p (take i vs)) gate → b ≡ truth n i w
filled_last n w p vs i gate b is h told made = made ∙ (ap (λ (xs : List Bool). gate_value w xs gate) told ∙ sym (truth_last n w i gate is h))

-- the truth of a gate once all gates are evaluated
pub place_truth : (n : Gates) (p gate : ℕ) (vs : List (List ℕ)) (w : List Bool) → gate < length n.gates → length vs ≡ length n.gates → across p vs ≡ truths n w
    → lane_bit p (get_or vs gate []) ≡ truth n gate w
unfolding truth
place_truth n p gate vs w h size all = sym (across_at p vs gate (omega (arith, h, size))) ∙ ap (λ (xs : List Bool). get_or xs gate false) all
