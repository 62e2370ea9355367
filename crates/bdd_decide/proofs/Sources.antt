-- The replacements of the variables in the copy for a part: what the copy shows about the part, and where the least
-- valuation is.
use Rattle.std.proofs.Common.{◌≡◌, ◌⊎◌, ℕ, zero, suc, ◌^◌, ◌<◌, ◌≤◌, inl, inr, Bool, false, List, [], ◌∷◌, length, get_or, refl, sym, ap, ◌∙◌, subst, arith}
use Rattle.std.proofs.lemmas.Bool.{cases_lt, lt-ltb, le-ltb}
use Rattle.nets.specs.Nets.{Gates, truth}
use Rattle.net_fields.specs.Spelling.{spell, spelt}
use Rattle.nets.specs.Substitution.{AreCopies, AreSources, behind, source_truth}
use Rattle.nets.specs.declared.copies.Replacement.{Replacement}
use Rattle.nets.specs.declared.copies.Replacement.TheVariants.{Const, Var}
use Rattle.nets.proofs.Gates.{read_at}
use Rattle.bdd_decide.specs.Decisions.{AreGatesOfNet, IsAlwaysTrue, IsLeastOf}
use Rattle.bdd_decide.specs.Splitting.{AreChosen, AreSourcesIn, IsLeastIn, IsTrueWhere, IsSubproblemOf, source_in}
use Rattle.bdd_decide.proofs.Bits.{bit_of_part, in_part}

pub same_list : (xs ys : List Bool) → length xs ≡ length ys → ((i : ℕ) → i < length xs → get_or xs i false ≡ get_or ys i false) → xs ≡ ys
same_list [] [] e h = refl
same_list [] (y ∷ ys) e h = absurd (omega (arith, e))
same_list (x ∷ xs) [] e h = absurd (omega (arith, e))
same_list (x ∷ xs) (y ∷ ys) e h =
    let head : x ≡ y = h 0 (omega arith) in
    let tail : xs ≡ ys = same_list xs ys (omega (arith, e)) (λ i lt. h (suc i) (omega (arith, lt))) in
    rw (head, tail) refl

pub length_behind : (to : List Replacement) (u : List Bool) → length (behind to u) ≡ length to
length_behind [] u = refl
length_behind (s ∷ to) u = ap suc (length_behind to u)

source_low : (u : List Bool) (k p i : ℕ) → i < k → source_truth u (source_in k p i) ≡ get_or (spell k p) i false
source_low u k p i lt = rw (lt-ltb i k lt) refl

source_high : (u : List Bool) (k p i : ℕ) → k ≤ i → source_truth u (source_in k p i) ≡ get_or u i false
source_high u k p i le = rw (le-ltb i k le) refl

pub tells_of : (n copy : Gates) (to : List Replacement) (gates items : List ℕ) (gate : ℕ) → AreCopies n copy to gates → items ≡ gates → gate < length gates → (u : List Bool) →
    truth copy (get_or items gate 0) u ≡ truth n gate (behind to u)
tells_of n copy to gates items gate h e lt u = ap (λ (xs : List ℕ). truth copy (get_or xs gate 0) u) e ∙ (h.each gate lt).is u

module _ (k p vars : ℕ) (to : List Replacement) (h : AreSourcesIn k p vars to) (bits : k ≤ vars) where
  low : (u : List Bool) (i : ℕ) → i < k → get_or (behind to u) i false ≡ get_or (spell k p) i false
  low u i lt =
      read_at to u i (let z = h.size in omega (arith, lt, bits, z))
      ∙ (ap (source_truth u) (h.each i (omega (arith, lt, bits))) ∙ source_low u k p i lt)

  high : (u : List Bool) (i : ℕ) → k ≤ i → i < vars → get_or (behind to u) i false ≡ get_or u i false
  high u i le lt =
      read_at to u i (let z = h.size in omega (arith, lt, z))
      ∙ (ap (source_truth u) (h.each i lt) ∙ source_high u k p i le)

  -- a valuation of the part is the net's valuation for itself
  behind_self : (w : List Bool) → length w ≡ vars → spelt w 0 k ≡ p → behind to w ≡ w
  behind_self w size e =
      same_list (behind to w) w (length_behind to w ∙ (h.size ∙ sym size)) (λ i lt. at i (let l = length_behind to w in let z = h.size in omega (arith, lt, l, z)))
    where
      at : (i : ℕ) → i < vars → get_or (behind to w) i false ≡ get_or w i false
      at i lt = elim (cases_lt i k) [ inl l ↦ low w i l ∙ sym (bit_of_part k w p i e l) | inr le ↦ high w i le lt ]

-- the first bits of one list, and the others of another
mixed : ℕ → List Bool → List Bool → List Bool
mixed zero us zs = zs
mixed (suc k) [] zs = zs
mixed (suc k) (u ∷ us) [] = []
mixed (suc k) (u ∷ us) (z ∷ zs) = u ∷ mixed k us zs

length_mixed : (k : ℕ) (us zs : List Bool) → length (mixed k us zs) ≡ length zs
unfolding mixed
length_mixed zero us zs = refl
length_mixed (suc k) [] zs = refl
length_mixed (suc k) (u ∷ us) [] = refl
length_mixed (suc k) (u ∷ us) (z ∷ zs) = ap suc (length_mixed k us zs)

mixed_low : (k : ℕ) (us zs : List Bool) (i : ℕ) → length us ≡ length zs → i < k → i < length us → get_or (mixed k us zs) i false ≡ get_or us i false
unfolding mixed
mixed_low zero us zs i e lt l = absurd (omega (arith, lt))
mixed_low (suc k) [] zs i e lt l = absurd (omega (arith, l))
mixed_low (suc k) (u ∷ us) [] i e lt l = absurd (omega (arith, e))
mixed_low (suc k) (u ∷ us) (z ∷ zs) zero e lt l = refl
mixed_low (suc k) (u ∷ us) (z ∷ zs) (suc i) e lt l = mixed_low k us zs i (omega (arith, e)) (omega (arith, lt)) (omega (arith, l))

mixed_high : (k : ℕ) (us zs : List Bool) (i : ℕ) → length us ≡ length zs → k ≤ i → get_or (mixed k us zs) i false ≡ get_or zs i false
unfolding mixed
mixed_high zero us zs i e le = refl
mixed_high (suc k) [] zs i e le = refl
mixed_high (suc k) (u ∷ us) [] i e le = absurd (omega (arith, e))
mixed_high (suc k) (u ∷ us) (z ∷ zs) zero e le = absurd (omega (arith, le))
mixed_high (suc k) (u ∷ us) (z ∷ zs) (suc i) e le = mixed_high k us zs i (omega (arith, e)) (omega (arith, le))

module _ (k p : ℕ) (n : Gates) (to : List Replacement) (h : AreSourcesIn k p n.vars to) (bits : k ≤ n.vars) (small : p < 2 ^ k) (copy : Gates) (gate g : ℕ)
    (tells : (u : List Bool) → truth copy g u ≡ truth n gate (behind to u)) (vars : copy.vars ≡ n.vars) where
  pub none_there : IsAlwaysTrue copy g → IsTrueWhere n gate k p
  none_there always w size e = ap (truth n gate) (sym (behind_self k p n.vars to h bits w size e)) ∙ (sym (tells w) ∙ always w (size ∙ sym vars))

  pub least_there : (u : List Bool) → IsLeastOf copy.vars (λ w. truth copy g w ≡ false) u → IsLeastIn n gate k p (behind to u)
  least_there u least =
      record {
        size = length_behind to u ∙ h.size;
        holds = (in_part k (behind to u) p small (λ i lt. low k p n.vars to h bits u i lt), sym (tells u) ∙ least.holds);
        least = λ z sz both y lt same off. at z sz both.0 both.1 y lt same off;
      }
    where
      at : (z : List Bool) → length z ≡ n.vars → spelt z 0 k ≡ p → truth n gate z ≡ false → (y : ℕ) → y < n.vars →
          ((x : ℕ) → x < y → get_or (behind to u) x false ≡ get_or z x false) → get_or z y false ≡ false → get_or (behind to u) y false ≡ false
      at z sz ez fz y lt same off = elim (cases_lt y k) [
        | inl l ↦ low k p n.vars to h bits u y l ∙ (sym (bit_of_part k z p y ez l) ∙ off)
        | inr le ↦ high k p n.vars to h bits u y le lt ∙ least.least other sizes fails y (subst (λ v. y < v) (sym vars) lt) agrees (mixed_high k u z y both le ∙ off)
      ]
        where
          both : length u ≡ length z
          both = least.size ∙ (vars ∙ sym sz)

          other : List Bool
          other = mixed k u z

          sizes : length other ≡ copy.vars
          sizes = length_mixed k u z ∙ (sz ∙ sym vars)

          behind_other : behind to other ≡ z
          behind_other =
              same_list (behind to other) z (length_behind to other ∙ (h.size ∙ sym sz))
              (λ i l. there i (let e = length_behind to other in let e2 = h.size in omega (arith, l, e, e2)))
            where
              there : (i : ℕ) → i < n.vars → get_or (behind to other) i false ≡ get_or z i false
              there i l = elim (cases_lt i k) [
                | inl l2 ↦ low k p n.vars to h bits other i l2 ∙ sym (bit_of_part k z p i ez l2)
                | inr le2 ↦ high k p n.vars to h bits other i le2 l ∙ mixed_high k u z i both le2
              ]

          fails : truth copy g other ≡ false
          fails = tells other ∙ (ap (truth n gate) behind_other ∙ fz)

          agrees : (i : ℕ) → i < y → get_or u i false ≡ get_or other i false
          agrees i l = elim (cases_lt i k) [
            | inl l2 ↦ sym (mixed_low k u z i both l2 (let e = least.size in omega (arith, e, l, lt, vars)))
            | inr le2 ↦ sym (high k p n.vars to h bits u i le2 (omega (arith, l, lt))) ∙ (same i l ∙ sym (mixed_high k u z i both le2))
          ]

-- ---- what the copy shows about the part

pub gates_made : (n : Gates) (gates made : List ℕ) → AreGatesOfNet n gates → length made ≡ length n.gates → (j : ℕ) → j < length gates → get_or gates j 0 < length made
gates_made n gates made of size j lt = let g = of j lt in omega (arith, g, size)

-- a variable replaces only itself
pub same_variable : (x y : ℕ) → Var x ≡ Var y → x ≡ y
same_variable x y e = ap place e
  where
    place : Replacement → ℕ
    place (Const b) = 0
    place (Var z) = z

pub are_sources : (k p vars : ℕ) (to : List Replacement) → AreSourcesIn k p vars to → AreSources vars to
are_sources k p vars to h = record { within = λ i x lt is. by i x lt is (cases_lt i k) }
  where
    low_is : (i : ℕ) → i < k → source_in k p i ≡ Const (get_or (spell k p) i false)
    low_is i lt = rw (lt-ltb i k lt) refl

    high_is : (i : ℕ) → k ≤ i → source_in k p i ≡ Var i
    high_is i le = rw (le-ltb i k le) refl

    by : (i x : ℕ) → i < length to → get_or to i (Const false) ≡ Var x → (i < k) ⊎ (k ≤ i) → x < vars
    by i x lt is (inl l) = absurd (let e : Const (get_or (spell k p) i false) ≡ Var x = sym (low_is i l) ∙ (sym (h.each i (let z = h.size in omega (arith, lt, z))) ∙ is) in cc)
    by i x lt is (inr le) =
        let e : Var i ≡ Var x = sym (high_is i le) ∙ (sym (h.each i (let z = h.size in omega (arith, lt, z))) ∙ is) in
        let same : i ≡ x = same_variable i x e in
        let z = h.size in omega (arith, lt, z, same)

module _ (k p : ℕ) (n : Gates) (to : List Replacement) (h : AreSourcesIn k p n.vars to) (bits : k ≤ n.vars) (small : p < 2 ^ k) (copy : Gates) (made gates chosen : List ℕ) (count : ℕ)
    (copies : AreCopies n copy to made) (size : length made ≡ length n.gates) (vars : copy.vars ≡ n.vars) (of : AreGatesOfNet n gates) (within : count ≤ length gates)
    (picked : AreChosen made gates count chosen) where
  inside_made : (j : ℕ) → j < count → get_or gates j 0 < length made
  inside_made j lt = let g = of j (omega (arith, lt, within)) in omega (arith, g, size)

  tells : (j : ℕ) → j < count → (u : List Bool) → truth copy (get_or chosen j 0) u ≡ truth n (get_or gates j 0) (behind to u)
  tells j lt u = ap (λ (g : ℕ). truth copy g u) (picked.each j lt) ∙ (copies.each (get_or gates j 0) (inside_made j lt)).is u

  pub stand_for : IsSubproblemOf n gates count k p (record { net = copy; gates = chosen })
  stand_for = record {
    size = picked.size;
    inside = λ j lt. subst (λ (g : ℕ). g < length copy.gates) (sym (picked.each j lt)) (copies.each (get_or gates j 0) (inside_made j lt)).within;
    yes = λ j lt always w sw e.
        ap (truth n (get_or gates j 0)) (sym (behind_self k p n.vars to h bits w sw e)) ∙ (sym (tells j lt w) ∙ always w (sw ∙ sym vars));
    no = λ j lt u fails. (
      behind to u,
      record {
        size = length_behind to u ∙ h.size;
        starts = in_part k (behind to u) p small (λ i l. low k p n.vars to h bits u i l);
        fails = sym (tells j lt u) ∙ fails.fails;
      },
    );
  }
