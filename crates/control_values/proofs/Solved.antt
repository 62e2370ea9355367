-- Leaves that are computed along an order from those of the given rows solve the equations of control values.
use Rattle.std.proofs.Common.{◌≡◌, ℕ, ◌+◌, ◌-◌, ◌++◌, ◌<◌, ◌≤◌, Bool, true, false, List, [], ◌∷◌, length, drop, get_or, slice_get, slice_set, nat_lt, Option, Some, None, refl, sym, ap, ◌∙◌, subst, arith}
use Rattle.std.proofs.lemmas.Bool.Decides.{nat_tests}
use Rattle.std.proofs.lemmas.List.{drop_more, length-append, get_or_append_left, get_or-append_right, get_or_past, get_or-set_same, get_or-set_other, length-set}
use Rattle.std.proofs.lemmas.Option.{slice_get_past}
use Rattle.hcl_types.specs.declared.term.Term.{Term}
use Rattle.hcl_types.specs.declared.table.Class.{Class}
use Rattle.hcl_types.specs.declared.table.Role.{Role}
use Rattle.hcl_types.specs.declared.table.Role.TheVariants as role
use Rattle.hcl_types.specs.declared.table.Row.{Row}
use Rattle.hcl_types.specs.Tables.{IsOrderOf, is_given, known, needs}
use Rattle.hcl_types.specs.Equations.{IsStore, evaluated_along, is_known}
use Rattle.hcl_types.proofs.Each.{each_more}
use Rattle.hcl_types.proofs.Orders.{solved}
use Rattle.ctl_atoms.specs.declared.leaf.Leaf.{Leaf}
use Rattle.ctl_atoms.specs.declared.leaf.Leaf.TheVariants.{Number}
use Rattle.ctl_atoms.specs.Leaves.{Assignment}
use Rattle.ctl_atoms.proofs.Solved.{known_row, unknown_inside}
use Rattle.ctl_equations.specs.Controls.{AreControls, control_rule, role_leaf, row_leaf}
use Rattle.ctl_equations.proofs.Rows.{rule_local, rule_past, rule_row}
use Rattle.control_values.specs.Given.{at, given_leaf}

-- a given row doesn't depend on its term
role_given : (field : ℕ → ℕ) (n : ℕ) (class : Class) (r : Role) (x y : Leaf) → is_given r ≡ true → role_leaf field n class r x ≡ role_leaf field n class r y
role_given field n class (role.Constant k) x y h = refl
role_given field n class role.State x y h = refl
role_given field n class (role.Hardware ids) x y h = refl
role_given field n class role.Defined x y h = cc

module _ (rows : List Row) (terms : List Term) (field : ℕ → ℕ) (α : Assignment) where
  known_rule : (n : ℕ) → is_known (known rows) n ≡ true → (f : ℕ → Leaf) → given_leaf field rows n ≡ control_rule rows terms field α n f
  known_rule n k f = by (slice_get rows n) refl
    where
      by : (o : Option Row) → slice_get rows n ≡ o → given_leaf field rows n ≡ control_rule rows terms field α n f
      by None e = ap (λ (o : Option Row). row_leaf field n o (Number 0)) e ∙ sym (rule_past rows terms field α n f e)
      by (Some row) e =
          ap (λ (o : Option Row). row_leaf field n o (Number 0)) e
          ∙ (role_given field n row.class row.role _ _ (sym (known_row rows n row e) ∙ k) ∙ sym (rule_row rows terms field α n f row e))

  pub leaves_solve : (ids : List ℕ) → IsOrderOf rows terms ids → (leaves : List Leaf) → length leaves ≡ length rows →
      ((n : ℕ) → at leaves n ≡ given_leaf field rows n) → AreControls rows terms field α (at (evaluated_along at slice_set (control_rule rows terms field α) leaves ids))
  leaves_solve ids o leaves whole given =
      solved at slice_set (λ xs n. n < length xs) store (control_rule rows terms field α) (needs rows terms) (known rows) (rule_local rows terms field α) leaves ids o
      (each_more {P = λ n. is_known (known rows) n ≡ false} {Q = λ n. n < length leaves} (λ n h. subst (λ z. n < z) (sym whole) (unknown_inside rows n h)) ids o.unknown)
      (λ n k f. given n ∙ known_rule n k f)
    where
      store : IsStore (List Leaf) Leaf at slice_set (λ xs n. n < length xs)
      store = record {
        same = λ s n a h. get_or-set_same s n a (Number 0) h;
        other = λ s n m a h. get_or-set_other s n m a (Number 0) (λ e. h (sym e));
        keeps = λ s n m a h. subst (λ z. m < z) (sym (length-set s n a)) h;
      }

  -- another row of the order
  pub one_filled : (leaves : List Leaf) (ids items : List ℕ) (i : ℕ) (own : Leaf) → items ≡ ids → i < length ids →
      own ≡ control_rule rows terms field α (get_or items i 0) (at leaves) →
      evaluated_along at slice_set (control_rule rows terms field α) (slice_set leaves (get_or items i 0) own) (drop (i + 1) ids) ≡ evaluated_along at slice_set (control_rule rows terms field α) leaves (drop i ids)
  one_filled leaves ids items i own same inside here =
      ap (λ (x : Leaf). evaluated_along at slice_set (control_rule rows terms field α) (slice_set leaves (get_or items i 0) x) (drop (i + 1) ids)) here
      ∙ ap (λ (ns : List ℕ). evaluated_along at slice_set (control_rule rows terms field α) leaves ns) (ap (λ (ns : List ℕ). get_or ns i 0 ∷ drop (i + 1) ids) same ∙ sym (drop_more ids i 0 inside))

-- a fact about each row, and about every place past the rows
pub given_everywhere : (field : ℕ → ℕ) (rows : List Row) (leaves : List Leaf) (end : ℕ) → length rows ≤ end → length leaves ≡ end →
    ((n : ℕ) → n < end → at leaves n ≡ given_leaf field rows n) → (n : ℕ) → at leaves n ≡ given_leaf field rows n
given_everywhere field rows leaves end h whole inside n = by (nat_lt n end) refl
  where
    by : (b : Bool) → nat_lt n end ≡ b → at leaves n ≡ given_leaf field rows n
    by true e = inside n (grind (arith, nat_tests, e))
    by false e =
        let past : end ≤ n = grind (arith, nat_tests, e) in
        get_or_past leaves n (Number 0) (omega (arith, past, whole)) ∙ ap (λ (o : Option Row). row_leaf field n o (Number 0)) (sym (slice_get_past rows n (omega (arith, past, h))))

-- another given row
pub given_more : (field : ℕ → ℕ) (rows : List Row) (leaves : List Leaf) (id : ℕ) (leaf : Leaf) (more : List Leaf) → length leaves ≡ id → more ≡ leaves ++ leaf ∷ [] →
    leaf ≡ given_leaf field rows id → ((n : ℕ) → n < id → at leaves n ≡ given_leaf field rows n) → (n : ℕ) → n < id + 1 → at more n ≡ given_leaf field rows n
given_more field rows leaves id leaf more whole is own inside n lt = ap (λ (xs : List Leaf). at xs n) is ∙ by (nat_lt n id) refl
  where
    last : (k : ℕ) → k ≡ id → at (leaves ++ leaf ∷ []) k ≡ given_leaf field rows k
    last k e =
        get_or-append_right leaves (leaf ∷ []) id k (Number 0) whole (omega (arith, e))
        ∙ (ap (λ j. get_or (leaf ∷ []) j (Number 0)) (let z : k - id ≡ 0 = omega (arith, e) in z) ∙ (own ∙ ap (given_leaf field rows) (sym e)))

    by : (b : Bool) → nat_lt n id ≡ b → at (leaves ++ leaf ∷ []) n ≡ given_leaf field rows n
    by true e = let h : n < id = grind (arith, nat_tests, e) in get_or_append_left leaves (leaf ∷ []) (Number 0) n (subst (λ z. n < z) (sym whole) h) ∙ inside n h
    by false e = last n (let past : id ≤ n = grind (arith, nat_tests, e) in omega (arith, past, lt))

pub length_more : (leaves : List Leaf) (leaf : Leaf) (more : List Leaf) (id : ℕ) → length leaves ≡ id → more ≡ leaves ++ leaf ∷ [] → length more ≡ id + 1
length_more leaves leaf more id whole is = ap length is ∙ (length-append leaves (leaf ∷ []) ∙ let e : length leaves + 1 ≡ id + 1 = omega (arith, whole) in e)
