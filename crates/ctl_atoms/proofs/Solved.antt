-- The leaves of names: computed along an order they solve the equations, and there is only one solution.
use Rattle.std.proofs.Common.{◌≡◌, ℕ, zero, suc, ◌+◌, ◌<◌, Bool, true, false, List, [], ◌∷◌, length, take, drop, get_or, slice_get, slice_set, nat_lt, ◌≤◌, Option, Some, None, refl, sym, ap, ◌∙◌, subst, arith}
use Rattle.std.proofs.lemmas.Bool.Decides.{nat_tests}
use Rattle.std.proofs.lemmas.List.{drop_more, get_or_past, get_or-set_same, get_or-set_other, length-set}
use Rattle.std.proofs.lemmas.Option.{slice_get_past}
use Rattle.std.specs.List.{AllByRecursion}
use Rattle.hcl_types.specs.declared.term.Term.{Term}
use Rattle.hcl_types.specs.declared.table.Role.{Role}
use Rattle.hcl_types.specs.declared.table.Role.TheVariants as role
use Rattle.hcl_types.specs.declared.table.Row.{Row}
use Rattle.hcl_types.specs.Terms.{names}
use Rattle.hcl_types.specs.Tables.{IsOrderOf, defined, is_defined, is_given, known, needs, needs_from, term_at}
use Rattle.hcl_types.specs.Equations.{IsSolution, IsLocal, IsStore, evaluated_along, is_known, needs_of}
use Rattle.hcl_types.proofs.Each.{each_more}
use Rattle.hcl_types.proofs.Orders.{solved, unique}
use Rattle.hcl_types.proofs.Stores.{changed, function_store}
use Rattle.ctl_atoms.specs.declared.leaf.Atom.{Atom}
use Rattle.ctl_atoms.specs.declared.leaf.Leaf.{Leaf}
use Rattle.ctl_atoms.specs.Atoms.{AreAtoms}
use Rattle.ctl_atoms.specs.TermAtoms.{TermAtoms, term_atoms}
use Rattle.ctl_atoms.specs.Rows.{leaf_rule, leaves_at, leaves_by_role, leaves_of_row, row_term}
use Rattle.ctl_atoms.specs.Mixing.{definition_mixes, mixes}
use Rattle.ctl_atoms.proofs.Local.{same_plan}

-- a defined row needs the names in its term
needs_counted : (k : ℕ) (rows : List Row) (terms : List Term) (n : ℕ) (row : Row) → slice_get rows n ≡ Some row → is_defined row.role ≡ true →
    needs_of (needs_from k rows terms) n ≡ names (term_at terms (k + length (defined (take n rows))))
needs_counted k [] terms n row e d = absurd (grind (arith, e))
needs_counted k (r ∷ rows) terms zero row e d =
    let same : r ≡ row = grind (arith, e) in
    let here : is_defined r.role ≡ true = subst (λ (z : Row). is_defined z.role ≡ true) (sym same) d in
    rw here (ap (λ j. names (term_at terms j)) (omega arith))
needs_counted k (r ∷ rows) terms (suc n) row e d = by (λ j. needs_counted j rows terms n row e d) (is_defined r.role) refl
  where
    by : ((j : ℕ) → needs_of (needs_from j rows terms) n ≡ names (term_at terms (j + length (defined (take n rows))))) →
        (b : Bool) → is_defined r.role ≡ b → needs_of (needs_from k (r ∷ rows) terms) (suc n) ≡ names (term_at terms (k + length (defined (take (suc n) (r ∷ rows)))))
    by rest true t = rw t (rest (k + 1) ∙ ap (λ j. names (term_at terms j)) (omega arith))
    by rest false t = rw t (rest k)

-- a defined row needs the names in its term
pub needs_defined : (rows : List Row) (terms : List Term) (n : ℕ) (row : Row) → slice_get rows n ≡ Some row → is_defined row.role ≡ true →
    needs_of (needs rows terms) n ≡ names (row_term rows terms n)
needs_defined rows terms n row e d = needs_counted 0 rows terms n row e d ∙ ap (λ j. names (term_at terms j)) (omega arith)

-- a row of the table is known exactly if it is given
pub known_row : (rows : List Row) (n : ℕ) (row : Row) → slice_get rows n ≡ Some row → is_known (known rows) n ≡ is_given row.role
known_row [] n row e = absurd (grind (arith, e))
known_row (r ∷ rows) zero row e =
    let same : r ≡ row = grind (arith, e) in
    ap (λ (z : Row). is_given z.role) same
known_row (r ∷ rows) (suc n) row e = known_row rows n row e

-- a number that isn't known is a row
pub unknown_inside : (rows : List Row) (n : ℕ) → is_known (known rows) n ≡ false → n < length rows
unknown_inside [] n e = absurd (grind (arith, e))
unknown_inside (r ∷ rows) zero e = omega arith
unknown_inside (r ∷ rows) (suc n) e = let rest = unknown_inside rows n e in omega (arith, rest)

module _ (rows : List Row) (terms : List Term) where
  -- the leaves of a row depend on those of the names that it needs
  pub rule_local : IsLocal (leaf_rule rows terms) (needs rows terms)
  rule_local n f g same = by (slice_get rows n) refl
    where
      by_role : (row : Row) → slice_get rows n ≡ Some row → (r : Role) → row.role ≡ r →
          leaves_by_role row.class n row.role (term_atoms f (row_term rows terms n)).leaves ≡ leaves_by_role row.class n row.role (term_atoms g (row_term rows terms n)).leaves
      by_role row e (role.Constant c) q = rw q refl
      by_role row e role.State q = rw q refl
      by_role row e (role.Hardware ids) q = rw q refl
      by_role row e role.Defined q =
          let own = subst (AllByRecursion (λ m. f m ≡ g m)) (needs_defined rows terms n row e (rw q refl)) same in
          ap (λ (p : TermAtoms). leaves_by_role row.class n row.role p.leaves) (same_plan f g (row_term rows terms n) own)

      by : (o : Option Row) → slice_get rows n ≡ o → leaves_of_row o n (term_atoms f (row_term rows terms n)).leaves ≡ leaves_of_row o n (term_atoms g (row_term rows terms n)).leaves
      by None e = refl
      by (Some row) e = by_role row e row.role refl

  -- those of a constant or a state name depend on nothing
  pub rule_known : (n : ℕ) → is_known (known rows) n ≡ true → (f : ℕ → List Leaf) → leaves_of_row (slice_get rows n) n [] ≡ leaf_rule rows terms n f
  rule_known n k f = by (slice_get rows n) refl
    where
      by_role : (row : Row) → (r : Role) → row.role ≡ r → is_given row.role ≡ true →
          leaves_by_role row.class n row.role [] ≡ leaves_by_role row.class n row.role (term_atoms f (row_term rows terms n)).leaves
      by_role row (role.Constant c) q h = rw q refl
      by_role row role.State q h = rw q refl
      by_role row (role.Hardware ids) q h = rw q refl
      by_role row role.Defined q h = let no : false ≡ true = subst (λ r. is_given r ≡ true) q h in absurd (grind (arith, no))

      by : (o : Option Row) → slice_get rows n ≡ o → leaves_of_row o n [] ≡ leaves_of_row o n (term_atoms f (row_term rows terms n)).leaves
      by None e = refl
      by (Some row) e = by_role row row.role refl (sym (known_row rows n row e) ∙ k)

  -- some leaves solve the equations
  pub leaves_exist : (ids : List ℕ) → IsOrderOf rows terms ids → (leaves : ℕ → List Leaf) × IsSolution (leaf_rule rows terms) leaves
  leaves_exist ids o =
      let start : ℕ → List Leaf = λ n. leaves_of_row (slice_get rows n) n [] in (
        evaluated_along (λ f. f) changed (leaf_rule rows terms) start ids,
        solved (λ f. f) changed (λ f n. Unit {0}) function_store (leaf_rule rows terms) (needs rows terms) (known rows) rule_local start ids o
            (each_more {P = λ n. is_known (known rows) n ≡ false} {Q = λ n. Unit {0}} (λ n h. tt) ids o.unknown) rule_known,
      )

  -- and only one does
  pub leaves_one : (ids : List ℕ) → IsOrderOf rows terms ids → (f g : ℕ → List Leaf) → IsSolution (leaf_rule rows terms) f → IsSolution (leaf_rule rows terms) g → f ≡ g
  leaves_one ids o f g p q = λ i n. unique (needs rows terms) (known rows) ids o (leaf_rule rows terms) rule_local
      (λ n k x y. sym (rule_known n k x) ∙ rule_known n k y) f g p q n i

  -- lists that are filled along the order from those of the given rows solve them
  pub lists_solve : (ids : List ℕ) → IsOrderOf rows terms ids → (lists : List (List Leaf)) → length lists ≡ length rows →
      ((n : ℕ) → leaves_at lists n ≡ leaves_of_row (slice_get rows n) n []) → IsSolution (leaf_rule rows terms) (leaves_at (evaluated_along leaves_at slice_set (leaf_rule rows terms) lists ids))
  lists_solve ids o lists whole given =
      solved leaves_at slice_set (λ xs n. n < length xs) store (leaf_rule rows terms) (needs rows terms) (known rows) rule_local lists ids o
      (each_more {P = λ n. is_known (known rows) n ≡ false} {Q = λ n. n < length lists} (λ n h. subst (λ z. n < z) (sym whole) (unknown_inside rows n h)) ids o.unknown)
      (λ n k f. given n ∙ rule_known n k f)
    where
      store : IsStore (List (List Leaf)) (List Leaf) leaves_at slice_set (λ xs n. n < length xs)
      store = record {
        same = λ s n a h. get_or-set_same s n a [] h;
        other = λ s n m a h. get_or-set_other s n m a [] (λ e. h (sym e));
        keeps = λ s n m a h. subst (λ z. m < z) (sym (length-set s n a)) h;
      }

-- a design has one list of atoms
pub atoms_one : (rows : List Row) (terms : List Term) (ids : List ℕ) (xs ys : List Atom) → IsOrderOf rows terms ids → AreAtoms rows terms xs → AreAtoms rows terms ys → xs ≡ ys
atoms_one rows terms ids xs ys o p q = let l = leaves_exist rows terms ids o in p.are (l.0) (l.1) ∙ sym (q.are (l.0) (l.1))

-- another row of the order
pub one_filled : (rows : List Row) (terms : List Term) (lists : List (List Leaf)) (ids items : List ℕ) (i : ℕ) (own : List Leaf) → items ≡ ids → i < length ids →
    own ≡ leaf_rule rows terms (get_or items i 0) (leaves_at lists) →
    evaluated_along leaves_at slice_set (leaf_rule rows terms) (slice_set lists (get_or items i 0) own) (drop (i + 1) ids) ≡ evaluated_along leaves_at slice_set (leaf_rule rows terms) lists (drop i ids)
one_filled rows terms lists ids items i own same inside here =
    ap (λ (xs : List Leaf). evaluated_along leaves_at slice_set (leaf_rule rows terms) (slice_set lists (get_or items i 0) xs) (drop (i + 1) ids)) here
    ∙ ap (λ (ns : List ℕ). evaluated_along leaves_at slice_set (leaf_rule rows terms) lists ns) (ap (λ (ns : List ℕ). get_or ns i 0 ∷ drop (i + 1) ids) same ∙ sym (drop_more ids i 0 inside))

-- a fact about each place of a list, and about every place past it
everywhere : (P : ℕ → Type 0) (end : ℕ) → ((n : ℕ) → n < end → P n) → ((n : ℕ) → end ≤ n → P n) → (n : ℕ) → P n
everywhere P end inside past n = by (nat_lt n end) refl
  where
    by : (b : Bool) → nat_lt n end ≡ b → P n
    by true e = inside n (grind (arith, nat_tests, e))
    by false e = past n (grind (arith, nat_tests, e))

pub given_everywhere : (rows : List Row) (lists : List (List Leaf)) (end : ℕ) → length rows ≤ end → length lists ≡ end →
    ((n : ℕ) → n < end → leaves_at lists n ≡ leaves_of_row (slice_get rows n) n []) → (n : ℕ) → leaves_at lists n ≡ leaves_of_row (slice_get rows n) n []
given_everywhere rows lists end h whole inside =
    everywhere (λ n. leaves_at lists n ≡ leaves_of_row (slice_get rows n) n []) end inside
    (λ n past. get_or_past lists n [] (omega (arith, past, whole)) ∙ ap (λ (o : Option Row). leaves_of_row o n []) (sym (slice_get_past rows n (omega (arith, past, h)))))

pub none_mixed : (rows : List Row) (terms : List Term) (end : ℕ) → length rows ≤ end → ((n : ℕ) → n < end → mixes rows terms n ≡ false) → (n : ℕ) → mixes rows terms n ≡ false
unfolding mixes
none_mixed rows terms end h inside =
    everywhere (λ n. mixes rows terms n ≡ false) end inside
    (λ n past. ap (λ (o : Option Row). definition_mixes rows terms o n) (slice_get_past rows n (omega (arith, past, h))))
