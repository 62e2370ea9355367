-- A copy by bits and places represents the valuations that begin with the bits.
use Rattle.std.proofs.Common.{◌≡◌, inl, inr, ℕ, ◌<◌, ◌≤◌, Bool, false, List, [], ◌∷◌, ◌++◌, length, map, get_or, sym, ap, ◌∙◌, subst, arith}
use Rattle.std.proofs.lemmas.Bool.{cases_lt}
use Rattle.std.proofs.lemmas.List.{get_or-map, get_or_append_left, get_or_push, length_push, length-map, ext_get_or}
use Rattle.nets.specs.Nets.{Gates, truth}
use Rattle.nets.specs.declared.copies.Replacement.{Replacement}
use Rattle.nets.specs.declared.copies.Replacement.TheVariants.{Const, Var}
use Rattle.nets.specs.declared.copies.SubstitutedNet.{SubstitutedNet}
use Rattle.nets.specs.Substitution.{source_truth, behind, AreSources, AreCopies}
use Rattle.nets.specs.Parts.{BeginsWith, IsCofactorNet, IsSourceOf, AreSourcesOf}

pub sources_none : (fixed : List Bool) (order : List ℕ) (to : List Replacement) → to ≡ [] → AreSourcesOf fixed order to
sources_none fixed order to e = record { each = λ i h. let k : i < length {A = Replacement} [] = subst (λ (xs : List Replacement). i < length xs) e h in absurd (omega (arith, k)) }

pub sources_more : {fixed : List Bool} {order : List ℕ} {to : List Replacement} {i : ℕ} (s : Replacement) → AreSourcesOf fixed order to → length to ≡ i → IsSourceOf fixed order i s
    → AreSourcesOf fixed order (to ++ s ∷ [])
sources_more {fixed} {order} {to} {i} s are size is = record {
  each = λ j h. elim (cases_lt j (length to)) [
    | inl p ↦ subst (IsSourceOf fixed order j) (sym (get_or_append_left to (s ∷ []) (Const false) j p)) (are.each j p)
    | inr p ↦ (let e : j ≡ length to = omega (arith, h, length_push to s) in
        subst (IsSourceOf fixed order j) (sym (get_or_push to s (Const false) j (sym e))) (subst (λ (k : ℕ). IsSourceOf fixed order k s) (sym (e ∙ size)) is))
  ];
}

-- a place in the order is a variable of the copy
pub are_sources : {fixed : List Bool} {order : List ℕ} {to : List Replacement} {vars : ℕ} → AreSourcesOf fixed order to → length order ≡ vars → AreSources vars to
are_sources {fixed} {order} {to} {vars} are whole = record {
  within = λ i x h e. let p : IsSourceOf fixed order i (Var x) = subst (IsSourceOf fixed order i) e (are.each i h) in
      let q : x < length order = p.1 in omega (arith, q, whole);
}

-- the valuation of the copy for a valuation of the net
abbrev ahead : List ℕ → List Bool → List Bool
ahead order w = map (λ (v : ℕ). get_or w v false) order

module _ (n : Gates) {fixed : List Bool} {order : List ℕ} {to : List Replacement} (are : AreSourcesOf fixed order to) (whole : length order ≡ n.vars) (size : length to ≡ length order) where
  -- the net's valuation for a valuation of the copy begins with the bits
  begins_behind : (u : List Bool) → length fixed ≤ n.vars → BeginsWith fixed (behind to u)
  begins_behind u few i h =
      let inside : i < length to = omega (arith, h, few, whole, size) in
      get_or-map (source_truth u) to i (Const false) false inside ∙ by (get_or to i (Const false)) (are.each i inside)
    where
      by : (s : Replacement) → IsSourceOf fixed order i s → source_truth u s ≡ get_or fixed i false
      by (Const b) p = p.1
      by (Var x) p = absurd (let q : length fixed ≤ i = p.0 in omega (arith, q, h))

  -- a valuation that begins with the bits is the net's valuation for one of the copy
  behind_ahead : (w : List Bool) → length w ≡ n.vars → BeginsWith fixed w → behind to (ahead order w) ≡ w
  behind_ahead w long begins =
      ext_get_or false (behind to (ahead order w)) w (length-map to (source_truth (ahead order w)) ∙ (size ∙ (whole ∙ sym long))) (λ i h.
      let inside : i < length to = subst (λ (k : ℕ). i < k) (length-map to (source_truth (ahead order w))) h in
      get_or-map (source_truth (ahead order w)) to i (Const false) false inside ∙ by i (get_or to i (Const false)) (are.each i inside))
    where
      by : (i : ℕ) (s : Replacement) → IsSourceOf fixed order i s → source_truth (ahead order w) s ≡ get_or w i false
      by i (Const b) p = p.1 ∙ sym (begins i p.0)
      by i (Var x) p = get_or-map (λ (v : ℕ). get_or w v false) order x 0 false p.1 ∙ ap (λ (v : ℕ). get_or w v false) p.2

  pub is_part : {s : SubstitutedNet} → length fixed ≤ n.vars → s.net.vars ≡ n.vars → length s.gates ≡ length n.gates → AreCopies n s.net to s.gates → IsCofactorNet n fixed s
  is_part {s} few vars gates copies = record {
    vars = vars;
    size = gates;
    inside = λ i h. (copies.each i (omega (arith, h, gates))).within;
    down = λ u long. (behind to u, length-map to (source_truth u) ∙ (size ∙ whole), begins_behind u few, λ i h. (copies.each i (omega (arith, h, gates))).is u);
    up = λ w long begins. (
      ahead order w,
      length-map order (λ (v : ℕ). get_or w v false) ∙ whole,
      λ i h. (copies.each i (omega (arith, h, gates))).is (ahead order w) ∙ ap (truth n i) (behind_ahead w long begins),
    );
  }
