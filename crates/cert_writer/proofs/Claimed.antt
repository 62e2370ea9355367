-- The claims of gates.
use Rattle.std.proofs.Common.{◌≡◌, ◌⊎◌, inl, inr, ℕ, ◌+◌, ◌<◌, ◌≤◌, Bool, not, ◌&&◌, List, [], ◌∷◌, ◌++◌, length, get_or, slice_get, Some, sym, ap, ◌∙◌, subst, arith}
use Rattle.std.proofs.lemmas.Bool.{cases_lt}
use Rattle.std.proofs.lemmas.List.{get_or_append_left, get_or_push, length_push}
use Rattle.std.proofs.lemmas.Option.{same_Some, slice_get_within}
use Rattle.nets.specs.Nets.{Gates, gate_value, truths}
use Rattle.nets.specs.Nets as nets
use Rattle.nets.specs.declared.net.Gate.{Gate}
use Rattle.nets.specs.declared.net.Gate.TheVariants as gate
use Rattle.cert_checker.specs.declared.known.Claim.TheVariants as claim
use Rattle.cert_checker.specs.declared.known.TermDef.{TermDef}
use Rattle.cert_writer.specs.Proofs.{KeepsClaims, HasClaim, Proof}
use Rattle.cert_writer.specs.Terms.{IsAnd, IsNot}
use Rattle.cert_writer.specs.Writing.{AreClaims, AreGateTerms, AreGates, MatchesBy}
use Rattle.cert_writer.proofs.Steps.{makes_kept}

module _ (n : Gates) (ranks : List ℕ) (terms : List TermDef) (ts : List ℕ) (i : ℕ) (h : i < length n.gates) (all : AreGateTerms n (length ranks) terms ts (length n.gates)) where
  pub not_asked : (a of negation : ℕ) → a < i → ((w : List Bool) → nets.truth n i w ≡ gate_value w (truths n w) (gate.Not a)) → of ≡ get_or ts a 0 → negation ≡ get_or ts i 0 → IsNot ranks terms of negation
  unfolding nets.truth
  not_asked a of negation less means e f =
      let one = all.each a (omega (arith, less, h)) in
      let whole = all.each i h in
      let is : IsNot ranks terms (get_or ts a 0) (get_or ts i 0) = record {
        of = one.within;
        negation = whole.within;
        is = λ w size. whole.is w size ∙ means w ∙ ap not (sym (one.is w size));
      } in
      subst (λ x. IsNot ranks terms x negation) (sym e) (subst (λ x. IsNot ranks terms (get_or ts a 0) x) (sym f) is)

  pub and_asked : (a b left right both : ℕ) → a < i → b < i → ((w : List Bool) → nets.truth n i w ≡ gate_value w (truths n w) (gate.And a b)) → left ≡ get_or ts a 0 → right ≡ get_or ts b 0 → both ≡ get_or ts i 0 →
      IsAnd ranks terms left right both
  unfolding nets.truth
  and_asked a b left right both less below means e f g =
      let one = all.each a (omega (arith, less, h)) in
      let two = all.each b (omega (arith, below, h)) in
      let whole = all.each i h in
      let is : IsAnd ranks terms (get_or ts a 0) (get_or ts b 0) (get_or ts i 0) = record {
        left = one.within;
        right = two.within;
        both = whole.within;
        is = λ w size. whole.is w size ∙ means w ∙ (λ j. sym (one.is w size) j && sym (two.is w size) j);
      } in
      subst (λ x. IsAnd ranks terms x right both) (sym e) (subst (λ x. IsAnd ranks terms (get_or ts a 0) x both) (sym f) (subst (λ x. IsAnd ranks terms (get_or ts a 0) (get_or ts b 0) x) (sym g) is))

pub not_fits : (n : Gates) (s : Proof) (ts : List ℕ) (i a p of negation : ℕ) → slice_get n.gates i ≡ Some (gate.Not a) → of ≡ get_or ts a 0 → negation ≡ get_or ts i 0 → HasClaim s (claim.Not of negation) p →
    (g : Gate) → slice_get n.gates i ≡ Some g → MatchesBy s ts (get_or ts i 0) p g
not_fits n s ts i a p of negation is e f m g at =
    subst (MatchesBy s ts (get_or ts i 0) p) (same_Some (gate.Not a) g (sym is ∙ at)) (m ∙ ap Some (λ j. claim.Not (e j) (f j)))

pub and_fits : (n : Gates) (s : Proof) (ts : List ℕ) (i a b p left right both : ℕ) → slice_get n.gates i ≡ Some (gate.And a b) → left ≡ get_or ts a 0 → right ≡ get_or ts b 0 → both ≡ get_or ts i 0 →
    HasClaim s (claim.And left right both) p → (g : Gate) → slice_get n.gates i ≡ Some g → MatchesBy s ts (get_or ts i 0) p g
and_fits n s ts i a b p left right both is e f h m g at =
    subst (MatchesBy s ts (get_or ts i 0) p) (same_Some (gate.And a b) g (sym is ∙ at)) (m ∙ ap Some (λ j. claim.And (e j) (f j) (h j)))

pub constant_fits : (n : Gates) (s : Proof) (ts : List ℕ) (i p : ℕ) (b : Bool) → slice_get n.gates i ≡ Some (gate.Const b) → (g : Gate) → slice_get n.gates i ≡ Some g → MatchesBy s ts (get_or ts i 0) p g
constant_fits n s ts i p b is g at = subst (MatchesBy s ts (get_or ts i 0) p) (same_Some (gate.Const b) g (sym is ∙ at)) tt

pub variable_fits : (n : Gates) (s : Proof) (ts : List ℕ) (i p v : ℕ) → slice_get n.gates i ≡ Some (gate.Var v) → (g : Gate) → slice_get n.gates i ≡ Some g → MatchesBy s ts (get_or ts i 0) p g
variable_fits n s ts i p v is g at = subst (MatchesBy s ts (get_or ts i 0) p) (same_Some (gate.Var v) g (sym is ∙ at)) tt

pub claims_none : (n : Gates) (s : Proof) (ts by : List ℕ) → by ≡ [] → AreClaims n s ts by 0
claims_none n s ts by e = record { size = ap length e; each = λ i h. absurd (omega (arith, h)) }

by_stays : (s t : Proof) (ts : List ℕ) (x p : ℕ) (g : Gate) → KeepsClaims s t → MatchesBy s ts x p g → MatchesBy t ts x p g
by_stays s t ts x p (gate.Const b) k f = tt
by_stays s t ts x p (gate.Var v) k f = tt
by_stays s t ts x p (gate.Not a) k f = makes_kept s t (claim.Not (get_or ts a 0) x) p k f
by_stays s t ts x p (gate.And a b) k f = makes_kept s t (claim.And (get_or ts a 0) (get_or ts b 0) x) p k f

pub claims_more : (n : Gates) (s t : Proof) (ts old new : List ℕ) (i p : ℕ) → KeepsClaims s t → AreClaims n s ts old i → ((g : Gate) → slice_get n.gates i ≡ Some g → MatchesBy t ts (get_or ts i 0) p g) → new ≡ old ++ p ∷ [] →
    AreClaims n t ts new (i + 1)
claims_more n s t ts old new i p k all one e = subst (λ (xs : List ℕ). AreClaims n t ts xs (i + 1)) (sym e) (record {
  size = (let z = all.size in let l = length_push old p in omega (arith, z, l));
  each = λ j h. by j h (cases_lt j i);
})
  where
    by : (j : ℕ) → j < i + 1 → (j < i) ⊎ (i ≤ j) → (g : Gate) → slice_get n.gates j ≡ Some g → MatchesBy t ts (get_or ts j 0) (get_or (old ++ p ∷ []) j 0) g
    by j h (inl less) g at =
        subst (λ q. MatchesBy t ts (get_or ts j 0) q g) (sym (get_or_append_left old (p ∷ []) 0 j (let z = all.size in omega (arith, less, z))))
        (by_stays s t ts (get_or ts j 0) (get_or old j 0) g k (all.each j less g at))
    by j h (inr past) g at =
        let same : i ≡ j = omega (arith, h, past) in
        subst (λ q. MatchesBy t ts (get_or ts j 0) q g) (sym (get_or_push old p 0 j (all.size ∙ same)))
        (subst (λ k. MatchesBy t ts (get_or ts k 0) p g) same (one g (ap (slice_get n.gates) same ∙ at)))

pub are_gates : (n : Gates) (s : Proof) (vars : ℕ) (ts by : List ℕ) → AreGateTerms n vars s.terms ts (length n.gates) → AreClaims n s ts by (length n.gates) → AreGates n s ts by
are_gates n s vars ts by t c = record {
  size = t.size;
  claims_size = c.size;
  within = λ i h. (let x = t.each i h in x.within);
  plain = λ i g e. (let x = t.each i (inside i g e) in x.plain g e);
  by = λ i g e. c.each i (inside i g e) g e;
}
  where
    inside : (i : ℕ) (g : Gate) → slice_get n.gates i ≡ Some g → i < length n.gates
    inside i g e = slice_get_within n.gates i g e
