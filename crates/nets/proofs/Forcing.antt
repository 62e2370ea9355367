-- What a false gate forces.
use Rattle.std.proofs.Common.{◌≡◌, ◌⊎◌, inl, inr, ℕ, ◌+◌, ◌<◌, ◌≤◌, Bool, true, false, ◌&&◌, List, [], ◌∷◌, ◌++◌, length, replicate, set, get_or, sym, ap, ◌∙◌, arith}
use Rattle.std.proofs.lemmas.Bool.{cases_lt, cases_eq, false≢true, not-true, not-false}
use Rattle.std.proofs.lemmas.List.{get_or-set_other, get_or-set_same, get_or_past, length-set, get_or_append_left, get_or_push, length_push}
use Rattle.y86_base.proofs.Booleans.{and_second, and_first}
use Rattle.y86_base.proofs.Lists.{none_true}
use Rattle.nets.specs.Nets.{Gates, gate_value, truth, truths}
use Rattle.nets.specs.declared.net.Gate.TheVariants as gate
use Rattle.nets.specs.Substitution.{AreSources, source_truth}
use Rattle.nets.specs.declared.copies.Replacement.{Replacement}
use Rattle.nets.specs.declared.copies.Replacement.TheVariants.{Const, Var}
use Rattle.nets.specs.Forcing.{AreCommon, AreImplied, AreMarkedTrue, IsForced, SubstituteAgrees}

-- another mark
pub one_true : (n : Gates) (old : List Bool) (a : ℕ) (u : List Bool) → AreMarkedTrue n old u → truth n a u ≡ true → AreMarkedTrue n (set old a true) u
one_true n old a u h is i marked = by (cases_eq i a)
  where
    by : (i ≡ a) ⊎ (i ≡ a → ⊥) → truth n i u ≡ true
    by (inl e) = ap (λ (k : ℕ). truth n k u) e ∙ is
    by (inr ne) = h i (sym (get_or-set_other old a i true false ne) ∙ marked)

pub none_marked : (n : Gates) (size : ℕ) (marked u : List Bool) → marked ≡ replicate size false → AreMarkedTrue n marked u
none_marked n size marked u e i is = absurd (none_true size i (ap (λ (xs : List Bool). get_or xs i false) (sym e) ∙ is))

pub both_true : (n : Gates) (old : List Bool) (i a b : ℕ) (u : List Bool) → AreMarkedTrue n old u → get_or old i false ≡ true → ((w : List Bool) → truth n i w ≡ gate_value w (truths n w) (gate.And a b)) →
    AreMarkedTrue n (set (set old a true) b true) u
unfolding truth
both_true n old i a b u h marked meaning =
    let both : (truth n a u && truth n b u) ≡ true = sym (meaning u) ∙ h i marked in
    one_true n (set old a true) b u (one_true n old a u h (and_first (truth n a u) (truth n b u) both)) (and_second (truth n a u) (truth n b u) both)

pub negated : (n : Gates) (i a : ℕ) (u : List Bool) → ((w : List Bool) → truth n i w ≡ gate_value w (truths n w) (gate.Not a)) → truth n i u ≡ false → truth n a u ≡ true
unfolding truth
negated n i a u meaning fails = not-false (truth n a u) (sym (meaning u) ∙ fails)

pub never_false : (n : Gates) (i : ℕ) (marked u : List Bool) → ((w : List Bool) → truth n i w ≡ gate_value w (truths n w) (gate.Const true)) → truth n i u ≡ false → AreMarkedTrue n marked u
unfolding truth
never_false n i marked u meaning fails = absurd (false≢true (sym fails ∙ meaning u))

-- ---- marks that are in both lists

pub record AreCommonTo (left right : List Bool) (count : ℕ) (marked : List Bool) : Type 0 where
  pub size : length marked ≡ length left
  pub in_left : (i : ℕ) → get_or marked i false ≡ true → get_or left i false ≡ true
  pub in_right : (i : ℕ) → i < count → get_or marked i false ≡ true → get_or right i false ≡ true

pub common_none : (left right marked : List Bool) (count : ℕ) → marked ≡ left → count ≡ 0 → AreCommonTo left right count marked
common_none left right marked count e z = record {
  size = ap length e;
  in_left = λ i is. ap (λ (xs : List Bool). get_or xs i false) (sym e) ∙ is;
  in_right = λ i lt. absurd (omega (arith, lt, z));
}

pub common_more : (left right marked : List Bool) (count : ℕ) → AreCommonTo left right count marked → get_or right count false ≡ true → AreCommonTo left right (count + 1) marked
common_more left right marked count h is = record { size = h.size; in_left = h.in_left; in_right = λ i lt at. by i lt at (cases_eq i count) }
  where
    by : (i : ℕ) → i < count + 1 → get_or marked i false ≡ true → (i ≡ count) ⊎ (i ≡ count → ⊥) → get_or right i false ≡ true
    by i lt at (inl e) = ap (λ (k : ℕ). get_or right k false) e ∙ is
    by i lt at (inr ne) = h.in_right i (grind (arith, ne, lt)) at

unset : (marked : List Bool) (i k : ℕ) → get_or (set marked k false) i false ≡ true → (i ≡ k → ⊥) × (get_or marked i false ≡ true)
unset marked i k is = by (cases_eq i k) (cases_lt i (length marked))
  where
    by : (i ≡ k) ⊎ (i ≡ k → ⊥) → (i < length marked) ⊎ (length marked ≤ i) → (i ≡ k → ⊥) × (get_or marked i false ≡ true)
    by (inl e) (inl lt) = absurd (false≢true (sym (ap (λ (j : ℕ). get_or (set marked j false) i false) (sym e) ∙ get_or-set_same marked i false false lt) ∙ is))
    by (inl e) (inr le) = absurd (false≢true (sym (get_or_past (set marked k false) i false (let l = length-set marked k false in omega (arith, l, le))) ∙ is))
    by (inr ne) b = (ne, sym (get_or-set_other marked k i false false ne) ∙ is)

pub common_less : (left right marked : List Bool) (count : ℕ) → AreCommonTo left right count marked → AreCommonTo left right (count + 1) (set marked count false)
common_less left right marked count h = record {
  size = length-set marked count false ∙ h.size;
  in_left = λ i at. h.in_left i (unset marked i count at).1;
  in_right = λ i lt at. h.in_right i (let ne = (unset marked i count at).0 in grind (arith, ne, lt)) (unset marked i count at).1;
}

pub common_all : (left right marked : List Bool) (count : ℕ) → AreCommonTo left right count marked → length left ≡ length right → length right ≤ count → AreCommon left right marked
common_all left right marked count h same le = record { size = h.size; in_left = h.in_left; in_right = λ i at. by i at (cases_lt i count) }
  where
    by : (i : ℕ) → get_or marked i false ≡ true → (i < count) ⊎ (count ≤ i) → get_or right i false ≡ true
    by i at (inl lt) = h.in_right i lt at
    by i at (inr past) = absurd (false≢true (sym (get_or_past marked i false (let l = h.size in omega (arith, l, same, le, past))) ∙ at))

pub implied_none : (n : Gates) (gates : List ℕ) (marked : List Bool) → length marked ≡ length n.gates → AreImplied n gates 0 marked
implied_none n gates marked size = record { size = size; each = λ k lt. absurd (omega (arith, lt)) }

pub implied_more : (n : Gates) (gates : List ℕ) (count gate : ℕ) (old others new : List Bool) → AreImplied n gates count old → gate ≡ get_or gates count 0 →
    ((u : List Bool) → truth n gate u ≡ false → AreMarkedTrue n others u) → AreCommon old others new → AreImplied n gates (count + 1) new
implied_more n gates count gate old others new h e here common = record { size = common.size ∙ h.size; each = λ k lt. by k lt (cases_eq k count) }
  where
    by : (k : ℕ) → k < count + 1 → (k ≡ count) ⊎ (k ≡ count → ⊥) → (u : List Bool) → truth n (get_or gates k 0) u ≡ false → AreMarkedTrue n new u
    by k lt (inl same) u fails i at =
        here u (ap (λ (g : ℕ). truth n g u) (e ∙ ap (λ (j : ℕ). get_or gates j 0) (sym same)) ∙ fails) i (common.in_right i at)
    by k lt (inr ne) u fails i at = h.each k (grind (arith, ne, lt)) u fails i (common.in_left i at)

-- ---- the replacements of the variables

pub settle_one : (to : List Replacement) (x : ℕ) (b : Bool) (u : List Bool) → get_or u x false ≡ b → SubstituteAgrees to u → SubstituteAgrees (set to x (Const b)) u
settle_one to x b u is h y lt = by (cases_eq y x)
  where
    less : y < length to
    less = let l = length-set to x (Const b) in omega (arith, l, lt)

    by : (y ≡ x) ⊎ (y ≡ x → ⊥) → source_truth u (get_or (set to x (Const b)) y (Const false)) ≡ get_or u y false
    by (inl e) =
        ap (source_truth u) (ap (λ (k : ℕ). get_or (set to k (Const b)) y (Const false)) (sym e) ∙ get_or-set_same to y (Const b) (Const false) less)
        ∙ (sym is ∙ ap (λ (k : ℕ). get_or u k false) (sym e))
    by (inr ne) = ap (source_truth u) (get_or-set_other to x y (Const b) (Const false) ne) ∙ h y less

pub settle_more : (to : List Replacement) (u : List Bool) (i : ℕ) → i ≡ length to → SubstituteAgrees to u → SubstituteAgrees (to ++ Var i ∷ []) u
settle_more to u i e h y lt = by (cases_lt y (length to))
  where
    by : (y < length to) ⊎ (length to ≤ y) → source_truth u (get_or (to ++ Var i ∷ []) y (Const false)) ≡ get_or u y false
    by (inl less) = ap (source_truth u) (get_or_append_left to (Var i ∷ []) (Const false) y less) ∙ h y less
    by (inr past) =
        let at : length to ≡ y = (let l = length_push to (Var i) in omega (arith, l, lt, past)) in
        ap (source_truth u) (get_or_push to (Var i) (Const false) y at) ∙ ap (λ (k : ℕ). get_or u k false) (e ∙ at)

pub settle_none : (to : List Replacement) (u : List Bool) → to ≡ [] → SubstituteAgrees to u
settle_none to u e x lt = absurd (let l = ap length e in omega (arith, l, lt))

pub sources_one : (to : List Replacement) (x vars : ℕ) (b : Bool) → AreSources vars to → AreSources vars (set to x (Const b))
sources_one to x vars b h = record { within = λ i y lt is. by i y (let l = length-set to x (Const b) in omega (arith, l, lt)) is (cases_eq i x) }
  where
    by : (i y : ℕ) → i < length to → get_or (set to x (Const b)) i (Const false) ≡ Var y → (i ≡ x) ⊎ (i ≡ x → ⊥) → y < vars
    by i y lt is (inl e) =
        absurd (let c : Const b ≡ Var y = sym (ap (λ (k : ℕ). get_or (set to k (Const b)) i (Const false)) (sym e) ∙ get_or-set_same to i (Const b) (Const false) lt) ∙ is in cc)
    by i y lt is (inr ne) = h.within i y lt (sym (get_or-set_other to x i (Const b) (Const false) ne) ∙ is)

pub sources_more : (to : List Replacement) (x vars : ℕ) → x < vars → AreSources vars to → AreSources vars (to ++ Var x ∷ [])
sources_more to x vars below h = record { within = λ i y lt is. by i y lt is (cases_lt i (length to)) }
  where
    place : Replacement → ℕ
    place (Const b) = 0
    place (Var z) = z

    by : (i y : ℕ) → i < length (to ++ Var x ∷ []) → get_or (to ++ Var x ∷ []) i (Const false) ≡ Var y → (i < length to) ⊎ (length to ≤ i) → y < vars
    by i y lt is (inl less) = h.within i y less (sym (get_or_append_left to (Var x ∷ []) (Const false) i less) ∙ is)
    by i y lt is (inr past) =
        let at : length to ≡ i = (let l = length_push to (Var x) in omega (arith, l, lt, past)) in
        let e : x ≡ y = ap place (sym (get_or_push to (Var x) (Const false) i at) ∙ is) in
        omega (arith, below, e)

-- the bit of a variable whose gate is true, and of one whose negation is
pub variable_bit : (n : Gates) (i x : ℕ) (u : List Bool) → ((w : List Bool) → truth n i w ≡ gate_value w (truths n w) (gate.Var x)) → truth n i u ≡ true → get_or u x false ≡ true
variable_bit n i x u meaning is = sym (meaning u) ∙ is

pub negated_bit : (n : Gates) (i a x : ℕ) (u : List Bool) → ((w : List Bool) → truth n i w ≡ gate_value w (truths n w) (gate.Not a)) →
    ((w : List Bool) → truth n a w ≡ gate_value w (truths n w) (gate.Var x)) → truth n i u ≡ true → get_or u x false ≡ false
unfolding truth
negated_bit n i a x u meaning inner is = sym (inner u) ∙ not-true (truth n a u) (sym (meaning u) ∙ is)

pub is_forced : (n : Gates) (gates : List ℕ) (to : List Replacement) → AreSources n.vars to → ((k : ℕ) → k < length gates → (u : List Bool) → truth n (get_or gates k 0) u ≡ false → SubstituteAgrees to u) → IsForced n gates to
is_forced n gates to sources settle = record { sources = sources; settle = settle }
