-- The least valuation at which a gate is false, found in a copy with the bits that variables have wherever it is false.
use Rattle.std.proofs.Common.{◌≡◌, ℕ, zero, suc, ◌<◌, Bool, true, false, List, [], ◌∷◌, length, get_or, refl, sym, ap, ◌∙◌, subst, arith}
use Rattle.std.proofs.lemmas.Bool.{false≢true}
use Rattle.nets.specs.Nets.{Gates, truth}
use Rattle.bdd_core.specs.Diagrams.{Diagrams}
use Rattle.bdd_core.specs.Meaning.{Agree, Always, IsBuilt, IsLeastFalsifying, truth_of}
use Rattle.bdd_core.specs.declared.store.Dia.{Dia}
use Rattle.nets.specs.Forcing.{IsForced}
use Rattle.nets.specs.Substitution.{AreSources, behind, source_truth}
use Rattle.nets.specs.declared.copies.Replacement.{Replacement}
use Rattle.nets.specs.declared.copies.Replacement.TheVariants.{Const, Var}
use Rattle.nets.proofs.Gates.{read_at}
use Rattle.bdd_decide.specs.Decisions.{IsAlwaysTrue, IsLeastOf}
use Rattle.bdd_decide.specs.Splitting.{AreForcedBits, AreOwn, own}
use Rattle.bdd_decide.proofs.Forced.{behind_settled}
use Rattle.bdd_decide.proofs.Sources.{length_behind, same_list, same_variable}

-- ---- bits, and each other variable in its own place

own_settled : (s : Replacement) (i : ℕ) (u : List Bool) → source_truth u s ≡ get_or u i false → source_truth u (own s i) ≡ get_or u i false
own_settled (Const b) i u e = e
own_settled (Var x) i u e = refl

own_is : (s : Replacement) (i x : ℕ) → own s i ≡ Var x → x ≡ i
own_is (Const b) i x e = absurd (let z : Const b ≡ Var x = e in cc)
own_is (Var y) i x e = sym (same_variable i x e)

pub are_forced : (n : Gates) (gate : ℕ) (xs : List ℕ) (found to : List Replacement) → xs ≡ gate ∷ [] → IsForced n xs found → length found ≡ n.vars → AreOwn found n.vars to → AreForcedBits n gate to
are_forced n gate xs found to is forced size h = record {
  size = h.size;
  own = λ i x lt e. own_is (get_or found i (Const false)) i x (sym (h.each i lt) ∙ e);
  settle = λ u fails i lt. (
      let inside : i < n.vars = (let z = h.size in omega (arith, lt, z)) in
      let first : 0 < length xs = (let s = ap length is in omega (arith, s)) in
      let false_at : truth n (get_or xs 0 0) u ≡ false = ap (λ (ys : List ℕ). truth n (get_or ys 0 0) u) is ∙ fails in
      ap (source_truth u) (h.each i inside)
      ∙ own_settled (get_or found i (Const false)) i u (forced.settle 0 first u false_at i (omega (arith, inside, size)))
      );
}

pub forced_sources : (n : Gates) (gate : ℕ) (to : List Replacement) → AreForcedBits n gate to → AreSources n.vars to
forced_sources n gate to h = record {
  within = λ i x lt e. (let inside : i < n.vars = (let z = h.size in omega (arith, lt, z)) in let same = h.own i x inside e in omega (arith, inside, same));
}

-- ---- a valuation's bits where bits are put in, and another's elsewhere

overlaid : List Replacement → List Bool → List Bool → List Bool
overlaid [] us zs = zs
overlaid (s ∷ to) [] zs = zs
overlaid (s ∷ to) (u ∷ us) [] = []
overlaid (Const b ∷ to) (u ∷ us) (z ∷ zs) = u ∷ overlaid to us zs
overlaid (Var x ∷ to) (u ∷ us) (z ∷ zs) = z ∷ overlaid to us zs

length_overlaid : (to : List Replacement) (us zs : List Bool) → length (overlaid to us zs) ≡ length zs
unfolding overlaid
length_overlaid [] us zs = refl
length_overlaid (s ∷ to) [] zs = refl
length_overlaid (s ∷ to) (u ∷ us) [] = refl
length_overlaid (Const b ∷ to) (u ∷ us) (z ∷ zs) = ap suc (length_overlaid to us zs)
length_overlaid (Var x ∷ to) (u ∷ us) (z ∷ zs) = ap suc (length_overlaid to us zs)

overlaid_const : (to : List Replacement) (us zs : List Bool) (i : ℕ) (b : Bool) → length us ≡ length to → length zs ≡ length to → i < length to → get_or to i (Const false) ≡ Const b →
    get_or (overlaid to us zs) i false ≡ get_or us i false
unfolding overlaid
overlaid_const [] us zs i b eu ez lt is = absurd (omega (arith, lt))
overlaid_const (s ∷ to) [] zs i b eu ez lt is = absurd (omega (arith, eu))
overlaid_const (s ∷ to) (u ∷ us) [] i b eu ez lt is = absurd (omega (arith, ez))
overlaid_const (Const c ∷ to) (u ∷ us) (z ∷ zs) zero b eu ez lt is = refl
overlaid_const (Var x ∷ to) (u ∷ us) (z ∷ zs) zero b eu ez lt is = absurd (let e : Var x ≡ Const b = is in cc)
overlaid_const (Const c ∷ to) (u ∷ us) (z ∷ zs) (suc i) b eu ez lt is = overlaid_const to us zs i b (omega (arith, eu)) (omega (arith, ez)) (omega (arith, lt)) is
overlaid_const (Var x ∷ to) (u ∷ us) (z ∷ zs) (suc i) b eu ez lt is = overlaid_const to us zs i b (omega (arith, eu)) (omega (arith, ez)) (omega (arith, lt)) is

overlaid_var : (to : List Replacement) (us zs : List Bool) (i x : ℕ) → length us ≡ length to → length zs ≡ length to → i < length to → get_or to i (Const false) ≡ Var x →
    get_or (overlaid to us zs) i false ≡ get_or zs i false
unfolding overlaid
overlaid_var [] us zs i x eu ez lt is = absurd (omega (arith, lt))
overlaid_var (s ∷ to) [] zs i x eu ez lt is = absurd (omega (arith, eu))
overlaid_var (s ∷ to) (u ∷ us) [] i x eu ez lt is = absurd (omega (arith, ez))
overlaid_var (Const c ∷ to) (u ∷ us) (z ∷ zs) zero x eu ez lt is = absurd (let e : Const c ≡ Var x = is in cc)
overlaid_var (Var y ∷ to) (u ∷ us) (z ∷ zs) zero x eu ez lt is = refl
overlaid_var (Const c ∷ to) (u ∷ us) (z ∷ zs) (suc i) x eu ez lt is = overlaid_var to us zs i x (omega (arith, eu)) (omega (arith, ez)) (omega (arith, lt)) is
overlaid_var (Var y ∷ to) (u ∷ us) (z ∷ zs) (suc i) x eu ez lt is = overlaid_var to us zs i x (omega (arith, eu)) (omega (arith, ez)) (omega (arith, lt)) is

-- ---- what the copy's diagram shows

module _ (n : Gates) (gate : ℕ) (to : List Replacement) (h : AreForcedBits n gate to) (copy : Gates) (g : ℕ) (tells : (u : List Bool) → truth copy g u ≡ truth n gate (behind to u))
    (s : Diagrams) (d : Dia) (vars : s.vars ≡ n.vars) (built : IsBuilt s copy g d) where
  told : (u : List Bool) → length u ≡ n.vars → truth_of s d u ≡ truth n gate (behind to u)
  told u size = built.is u (size ∙ sym vars) ∙ tells u

  pub none_false : Always s d true → IsAlwaysTrue n gate
  none_false always w size = by (truth n gate w) refl
    where
      by : (b : Bool) → truth n gate w ≡ b → truth n gate w ≡ true
      by true e = e
      by false e =
          absurd (false≢true (sym e ∙ (ap (truth n gate) (sym (behind_settled to w (size ∙ sym h.size) (h.settle w e))) ∙ (sym (told w size) ∙ always w (size ∙ sym vars)))))

  module _ (u : List Bool) (least : IsLeastFalsifying s d u) where
    size_u : length u ≡ length to
    size_u = least.size ∙ (vars ∙ sym h.size)

    -- the net's valuation for u has the bits of u, except where a bit is put in
    behind_var : (i x : ℕ) → i < n.vars → get_or to i (Const false) ≡ Var x → get_or (behind to u) i false ≡ get_or u i false
    behind_var i x lt is =
        read_at to u i (let z = h.size in omega (arith, lt, z)) ∙ (ap (source_truth u) is ∙ ap (λ (j : ℕ). get_or u j false) (h.own i x lt is))

    module _ (z : List Bool) (sz : length z ≡ n.vars) (fz : truth n gate z ≡ false) where
      size_z : length z ≡ length to
      size_z = sz ∙ sym h.size

      abbrev other : List Bool
      other = overlaid to u z

      inside : (i : ℕ) → i < n.vars → i < length to
      inside i lt = let e = h.size in omega (arith, lt, e)

      behind_other : behind to other ≡ z
      behind_other =
          same_list (behind to other) z (length_behind to other ∙ sym size_z)
          (λ i l. at i (let e = length_behind to other in omega (arith, l, e)) (get_or to i (Const false)) refl)
        where
          at : (i : ℕ) → i < length to → (s : Replacement) → get_or to i (Const false) ≡ s → get_or (behind to other) i false ≡ get_or z i false
          at i lt (Const b) is = read_at to other i lt ∙ (ap (source_truth other) is ∙ (sym (ap (source_truth z) is) ∙ h.settle z fz i lt))
          at i lt (Var x) is =
              read_at to other i lt
              ∙ (ap (source_truth other) is
              ∙ (ap (λ (j : ℕ). get_or other j false) (h.own i x (let e = h.size in omega (arith, lt, e)) is) ∙ overlaid_var to u z i x size_u size_z lt is))

      fails : truth_of s d other ≡ false
      fails = told other (length_overlaid to u z ∙ sz) ∙ (ap (truth n gate) behind_other ∙ fz)

      least_at : (y : ℕ) → y < n.vars → ((x : ℕ) → x < y → get_or (behind to u) x false ≡ get_or z x false) → get_or z y false ≡ false → get_or (behind to u) y false ≡ false
      least_at y lt same off = by (get_or to y (Const false)) refl
        where
          agrees : Agree y u other
          agrees i l = each (get_or to i (Const false)) refl
            where
              low : i < n.vars
              low = omega (arith, l, lt)

              each : (s : Replacement) → get_or to i (Const false) ≡ s → get_or u i false ≡ get_or other i false
              each (Const b) is = sym (overlaid_const to u z i b size_u size_z (inside i low) is)
              each (Var x) is = sym (behind_var i x low is) ∙ (same i l ∙ sym (overlaid_var to u z i x size_u size_z (inside i low) is))

          by : (s : Replacement) → get_or to y (Const false) ≡ s → get_or (behind to u) y false ≡ false
          by (Const b) is =
              read_at to u y (inside y lt) ∙ (ap (source_truth u) is ∙ (sym (ap (source_truth z) is) ∙ (h.settle z fz y (inside y lt) ∙ off)))
          by (Var x) is =
              behind_var y x lt is
              ∙ least.least other (length_overlaid to u z ∙ (sz ∙ sym vars)) fails y (subst (λ (v : ℕ). y < v) (sym vars) lt) agrees
              (overlaid_var to u z y x size_u size_z (inside y lt) is ∙ off)

    pub least_false : IsLeastOf n.vars (λ w. truth n gate w ≡ false) (behind to u)
    least_false = record {
      size = length_behind to u ∙ h.size;
      holds = sym (told u (least.size ∙ vars)) ∙ least.fails;
      least = λ z sz fz y lt same off. least_at z sz fz y lt same off;
    }
