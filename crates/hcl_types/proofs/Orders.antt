-- Computing along an order solves the equations; induction along an order; equations that can be ordered have one
-- solution.
use Rattle.std.proofs.Common.{◌≡◌, ℕ, Bool, true, false, List, [], ◌∷◌, refl, sym, ◌∙◌, subst, inl, inr, arith}
use Rattle.std.specs.Prelude.{◌⊎◌}
use Rattle.std.specs.List.{AllByRecursion}
use Rattle.hcl_types.specs.Lists.{IsIn, IsApart}
use Rattle.hcl_types.specs.Equations.{IsSolution, IsTopologicalOrder, IsOrdered, IsStore, IsLocal, evaluated_along, is_known, needs_of}
use Rattle.hcl_types.proofs.Each.{each_in, each_more}

true_is_not_false : {P : Type 0} (b : Bool) → b ≡ true → b ≡ false → P
true_is_not_false b t f = grind (arith, t, f)

apart_from : {A : Type 0} (x : A) (xs : List A) → (IsIn x xs → ⊥) → AllByRecursion (λ y. x ≡ y → ⊥) xs
apart_from x [] h = tt
apart_from x (y ∷ ys) h = (λ e. h (inl e), apart_from x ys (λ i. h (inr i)))

-- ---- induction along an order

module _ (needs : List (List ℕ)) (known : List Bool) (P : ℕ → Type 0)
    (given : (n : ℕ) → is_known known n ≡ true → P n)
    (step : (n : ℕ) → is_known known n ≡ false → AllByRecursion P (needs_of needs n) → P n) where
  all_along : (done ids : List ℕ) → AllByRecursion P done → AllByRecursion (λ n. is_known known n ≡ false) ids → IsOrdered needs known done ids → AllByRecursion P ids
  all_along done [] p u o = tt
  all_along done (n ∷ ids) p u o =
      let each_needed = each_more {P = λ m. (is_known known m ≡ true) ⊎ IsIn m done} {Q = P} (λ m h. needed m h) (needs_of needs n) o.0 in
      let here = step n u.0 each_needed in
      (here, all_along (n ∷ done) ids (here, p) u.1 o.1)
    where
      needed : (m : ℕ) → (is_known known m ≡ true) ⊎ IsIn m done → P m
      needed m (inl k) = given m k
      needed m (inr i) = each_in P done m p i

  -- P holds for every row, if it holds for the known rows, and for a row whenever it holds for all that the row needs
  pub along : (ids : List ℕ) → IsTopologicalOrder needs known ids → (n : ℕ) → P n
  along ids o n = by (is_known known n) refl
    where
      by : (b : Bool) → is_known known n ≡ b → P n
      by true k = given n k
      by false u = each_in P ids n (all_along [] ids tt o.unknown o.ordered) (o.whole n u)

-- two solutions are related at every row if the rules preserve the relation
pub by_order : {A B : Type 0} (needs : List (List ℕ)) (known : List Bool) (ids : List ℕ) → IsTopologicalOrder needs known ids →
    (rule : ℕ → (ℕ → A) → A) (other : ℕ → (ℕ → B) → B) (f : ℕ → A) (g : ℕ → B) → IsSolution rule f → IsSolution other g → (R : ℕ → A → B → Type 0) →
    ((n : ℕ) → is_known known n ≡ true → R n (rule n f) (other n g)) →
    ((n : ℕ) → is_known known n ≡ false → AllByRecursion (λ m. R m (f m) (g m)) (needs_of needs n) → R n (rule n f) (other n g)) →
    (n : ℕ) → R n (f n) (g n)
by_order needs known ids o rule other f g fixed fixed' R given step =
    along needs known (λ n. R n (f n) (g n))
    (λ n k. rw (fixed n, fixed' n) (given n k))
    (λ n u h. rw (fixed n, fixed' n) (step n u h))
    ids o

-- equations that can be ordered have one solution
pub unique : {A : Type 0} (needs : List (List ℕ)) (known : List Bool) (ids : List ℕ) → IsTopologicalOrder needs known ids →
    (rule : ℕ → (ℕ → A) → A) → IsLocal rule needs → ((n : ℕ) → is_known known n ≡ true → (f g : ℕ → A) → rule n f ≡ rule n g) →
    (f g : ℕ → A) → IsSolution rule f → IsSolution rule g → (n : ℕ) → f n ≡ g n
unique needs known ids o rule local given f g fixed fixed' =
    by_order needs known ids o rule rule f g fixed fixed' (λ n x y. x ≡ y) (λ n k. given n k f g) (λ n u h. local n f g h)

-- ---- computing along an order

module _ {S A : Type 0} (get : S → ℕ → A) (put : S → ℕ → A → S) (Has : S → ℕ → Type 0) (store : IsStore S A get put Has) (rule : ℕ → (ℕ → A) → A) where
  untouched : (s : S) (ids : List ℕ) (m : ℕ) → AllByRecursion (λ n. n ≡ m → ⊥) ids → get (evaluated_along get put rule s ids) m ≡ get s m
  untouched s [] m h = refl
  untouched s (n ∷ ids) m h = untouched (put s n (rule n (get s))) ids m h.1 ∙ store.other s n m (rule n (get s)) h.0

  module _ (needs : List (List ℕ)) (known : List Bool) (local : IsLocal rule needs) where
    all_solved : (s : S) (done ids : List ℕ) → AllByRecursion (Has s) ids → AllByRecursion (λ n. is_known known n ≡ false) ids → IsApart ids →
        AllByRecursion (λ n. IsIn n done → ⊥) ids → IsOrdered needs known done ids →
        AllByRecursion (λ n. get (evaluated_along get put rule s ids) n ≡ rule n (get (evaluated_along get put rule s ids))) ids
    all_solved s done [] h u a d o = tt
    all_solved s done (n ∷ ids) h u a d o =
        let put_there = store.same s n (rule n (get s)) h.0 in
        let stays = untouched after ids n (each_more {P = λ m. n ≡ m → ⊥} {Q = λ m. m ≡ n → ⊥} (λ m e p. e (sym p)) ids (apart_from n ids a.0)) in
        let reads = local n (get s) (get (evaluated_along get put rule after ids)) (each_more {P = λ m. (is_known known m ≡ true) ⊎ IsIn m done} {Q = λ m. get s m ≡ get (evaluated_along get put rule after ids) m} (λ m k. sym (untouched s (n ∷ ids) m (clear m k))) (needs_of needs n) o.0) in (
          stays ∙ put_there ∙ reads,
          all_solved after (n ∷ done) ids (each_more {P = Has s} {Q = Has after} (λ m has. store.keeps s n m (rule n (get s)) has) ids h.1) u.1 a.1 (not_done ids (apart_from n ids a.0) d.1) o.1,
        )
      where
        after : S
        after = put s n (rule n (get s))

        clear : (m : ℕ) → (is_known known m ≡ true) ⊎ IsIn m done → AllByRecursion (λ i. i ≡ m → ⊥) (n ∷ ids)
        clear m (inl k) = each_more {P = λ i. is_known known i ≡ false} {Q = λ i. i ≡ m → ⊥} (λ i no e. true_is_not_false (is_known known m) k (subst (λ z. is_known known z ≡ false) e no)) (n ∷ ids) u
        clear m (inr i) = each_more {P = λ j. IsIn j done → ⊥} {Q = λ j. j ≡ m → ⊥} (λ j no e. no (subst (λ z. IsIn z done) (sym e) i)) (n ∷ ids) d

        not_done : (rest : List ℕ) → AllByRecursion (λ m. n ≡ m → ⊥) rest → AllByRecursion (λ m. IsIn m done → ⊥) rest → AllByRecursion (λ m. IsIn m (n ∷ done) → ⊥) rest
        not_done [] x y = tt
        not_done (m ∷ rest) x y = (neither m x.0 y.0, not_done rest x.1 y.1)
          where
            neither : (m : ℕ) → (n ≡ m → ⊥) → (IsIn m done → ⊥) → IsIn m (n ∷ done) → ⊥
            neither m p q (inl e) = p (sym e)
            neither m p q (inr i) = q i

    -- if the known rows have their values from the start, computing along an order solves the equations
    pub solved : (s : S) (ids : List ℕ) → IsTopologicalOrder needs known ids → AllByRecursion (Has s) ids →
        ((n : ℕ) → is_known known n ≡ true → (f : ℕ → A) → get s n ≡ rule n f) → IsSolution rule (get (evaluated_along get put rule s ids))
    solved s ids o h given n = by (is_known known n) refl
      where
        by : (b : Bool) → is_known known n ≡ b → get (evaluated_along get put rule s ids) n ≡ rule n (get (evaluated_along get put rule s ids))
        by true k = untouched s ids n (each_more {P = λ i. is_known known i ≡ false} {Q = λ i. i ≡ n → ⊥} (λ i no e. true_is_not_false (is_known known n) k (subst (λ z. is_known known z ≡ false) e no)) ids o.unknown)
            ∙ given n k (get (evaluated_along get put rule s ids))
        by false u = each_in (λ m. get (evaluated_along get put rule s ids) m ≡ rule m (get (evaluated_along get put rule s ids))) ids n (all_solved s [] ids h o.unknown o.apart (each_more {P = λ i. is_known known i ≡ false} {Q = λ i. IsIn i [] → ⊥} (λ i no e. e) ids o.unknown) o.ordered) (o.whole n u)
