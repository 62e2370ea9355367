-- Exactly one gate of a name's picks is true.
use Rattle.std.proofs.Common.{◌≡◌, ℕ, zero, suc, Bool, true, false, ◌||◌, ◌&&◌, List, [], ◌∷◌, Some, slice_get, refl, sym, ap, ◌∙◌, subst, arith}
use Rattle.std.proofs.lemmas.Bool.{or_right}
use Rattle.std.proofs.Math.Bool.{and_comm}
use Rattle.std.proofs.lemmas.Option.{same_Some}
use Rattle.y86_base.proofs.Booleans.{and_second}
use Rattle.nets.specs.Nets.{truth}
use Rattle.hcl_types.specs.Lists.{some}
use Rattle.ctl_atoms.specs.declared.leaf.Leaf.{Leaf}
use Rattle.ctl_atoms.specs.Leaves.{leaf_eq}
use Rattle.ctl_atoms.specs.TermAtoms.{has_leaf}
use Rattle.ctl_atoms.proofs.Same.{leaf_eq_true, leaf_eq_self}
use Rattle.ctl_picks.specs.declared.controls.Pick.{Pick}
use Rattle.ctl_picks.specs.Picks.{picks_of, leaves_of}
use Rattle.ctl_picks.specs.TakenPicks.{leaf_taken}
use Rattle.ctl_picks.specs.Laws.{Apart, OneGate}
use Rattle.ctl_picks.proofs.Steps.{or_same}

none_taken : (tr : ℕ → Bool) (ps : List Pick) (y : Leaf) → has_leaf (leaves_of ps) y ≡ false → leaf_taken tr ps y ≡ false
none_taken tr [] y h = refl
none_taken tr (p ∷ ps) y h = step (leaf_eq p.leaf y) (has_leaf (leaves_of ps) y) (tr p.gate) (leaf_taken tr ps y) h (none_taken tr ps y)
  where
    step : (k a g t : Bool) → k || a ≡ false → (a ≡ false → t ≡ false) → (k && g) || t ≡ false
    step true a g t e f = cc
    step false a g t e f = f e

or_false : (a b : Bool) → b ≡ false → a || b ≡ a
or_false true b h = refl
or_false false b h = h

had_at : (ps : List Pick) (k : ℕ) (p : Pick) → slice_get ps k ≡ Some p → has_leaf (leaves_of ps) p.leaf ≡ true
had_at [] k p e = absurd (grind (arith, e))
had_at (q ∷ ps) zero p e =
    ap (λ b. b || has_leaf (leaves_of ps) p.leaf) (ap (λ (x : Pick). leaf_eq x.leaf p.leaf) (same_Some q p e) ∙ leaf_eq_self p.leaf)
had_at (q ∷ ps) (suc k) p e = or_right (leaf_eq q.leaf p.leaf) (has_leaf (leaves_of ps) p.leaf) (had_at ps k p e)

differs : (a b : Leaf) (ls : List Leaf) → has_leaf ls a ≡ false → has_leaf ls b ≡ true → leaf_eq a b ≡ false
differs a b ls h t = by (leaf_eq a b) refl
  where
    by : (e : Bool) → leaf_eq a b ≡ e → e ≡ false
    by false q = refl
    by true q = let same = leaf_eq_true a b q in let clash : true ≡ false = sym t ∙ (ap (has_leaf ls) (sym same) ∙ h) in clash

own_gate : (tr : ℕ → Bool) (ps : List Pick) → Apart (leaves_of ps) → (k : ℕ) (p : Pick) → slice_get ps k ≡ Some p → leaf_taken tr ps p.leaf ≡ tr p.gate
own_gate tr [] a k p e = absurd (grind (arith, e))
own_gate tr (q ∷ ps) a zero p e =
    let same : q ≡ p = same_Some q p e in
    subst (λ (x : Pick). leaf_taken tr (q ∷ ps) x.leaf ≡ tr x.gate) same
    (or_same _ _ _ _ (ap (λ b. b && tr q.gate) (leaf_eq_self q.leaf)) (none_taken tr ps q.leaf a.0) ∙ or_false (tr q.gate) false refl)
own_gate tr (q ∷ ps) a (suc k) p e =
    ap (λ b. (b && tr q.gate) || leaf_taken tr ps p.leaf) (differs q.leaf p.leaf (leaves_of ps) a.0 (had_at ps k p e)) ∙ own_gate tr ps a.1 k p e

taken_some : (tr : ℕ → Bool) (ps : List Pick) (y : Leaf) → leaf_taken tr ps y ≡ some (λ (p : Pick). tr p.gate && leaf_eq p.leaf y) ps
taken_some tr [] y = refl
taken_some tr (p ∷ ps) y = or_same _ _ _ _ (and_comm (leaf_eq p.leaf y) (tr p.gate)) (taken_some tr ps y)

found : (f : Pick → Bool) (ps : List Pick) → some f ps ≡ true → (k : ℕ) × (p : Pick) × (slice_get ps k ≡ Some p) × (f p ≡ true)
found f [] h = absurd (grind (arith, h))
found f (q ∷ ps) h = by (found f ps) (f q) refl h
  where
    by : (some f ps ≡ true → (k : ℕ) × (p : Pick) × (slice_get ps k ≡ Some p) × (f p ≡ true)) → (b : Bool) → f q ≡ b → b || some f ps ≡ true → (k : ℕ) × (p : Pick) × (slice_get (q ∷ ps) k ≡ Some p) × (f p ≡ true)
    by go true e t = (0, q, refl, e)
    by go false e t = let rest = go t in (suc rest.0, rest.1, rest.2, rest.3)

pub one_gate : OneGate
one_gate net ctl w α cv tells apart n has = record {
  each = λ k p e. sym (own_gate (λ g. truth net g w) ps (apart n has) k p e) ∙ (taken_some (λ g. truth net g w) ps p.leaf ∙ tells.picks_are n has (λ z. leaf_eq z p.leaf));
  one =
      let some_one = found (λ (p : Pick). truth net p.gate w && leaf_eq p.leaf (cv n)) ps (tells.picks_are n has (λ z. leaf_eq z (cv n)) ∙ leaf_eq_self (cv n)) in
      (some_one.0, some_one.1, some_one.2, leaf_eq_true some_one.1.leaf (cv n) (and_second (truth net some_one.1.gate w) (leaf_eq some_one.1.leaf (cv n)) some_one.3));
}
  where
    ps : List Pick
    ps = picks_of ctl n
