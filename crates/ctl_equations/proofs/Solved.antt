-- Control values exist and are unique if there is an order; and they agree with a real cycle's values.
use Rattle.std.proofs.Common.{◌≡◌, ℕ, Bool, true, false, not, List, [], ◌∷◌, Option, Some, None, slice_get, nat_eq, nat_lt, refl, sym, ap, ◌∙◌, subst, arith}
use Rattle.std.proofs.lemmas.Bool.Decides.{nat_tests}
use Rattle.std.specs.List.{AllByRecursion}
use Rattle.std.proofs.lemmas.Bool.{eqb-true}
use Rattle.y86_base.proofs.Numbers.{eqb_self}
use Rattle.hcl_tree.specs.declared.tree.CmpOp.{CmpOp}
use Rattle.hcl_tree.specs.declared.tree.CmpOp.TheVariants as op
use Rattle.hcl_types.specs.declared.term.Term.{Term}
use Rattle.hcl_types.specs.declared.table.Row.{Row}
use Rattle.hcl_types.specs.Equations.{evaluated_along, is_known, needs_of}
use Rattle.hcl_types.specs.Tables.{is_defined, is_given, known, needs, IsOrderOf}
use Rattle.hcl_types.specs.Terms.{names, value, word_meaning, signed_below, compare_words}
use Rattle.hcl_types.proofs.Orders.{along, unique, solved}
use Rattle.hcl_types.proofs.Stores.{changed, function_store}
use Rattle.hcl_types.proofs.Related.{Alike, related}
use Rattle.ctl_atoms.specs.declared.leaf.Leaf.{Leaf}
use Rattle.ctl_atoms.specs.declared.leaf.Leaf.TheVariants.{Name, Number}
use Rattle.ctl_atoms.specs.Leaves.{Assignment, leaf_meaning, leaf_lt, leaf_same, leaf_cmp}
use Rattle.ctl_atoms.specs.Rows.{row_term}
use Rattle.ctl_atoms.proofs.Solved.{known_row, needs_defined}
use Rattle.ctl_equations.specs.Controls.{control_rule, AreControls}
use Rattle.ctl_equations.specs.Laws.{HasControls, leaf_value, real_assignment, ControlsAgree}
use Rattle.ctl_equations.proofs.Rows.{needs_given, given_undefined, given_inputs, defined_leaf, rule_past, rule_row, rule_local, rule_known}

each_unit : (ids : List ℕ) → AllByRecursion (λ (n : ℕ). Unit {0}) ids
each_unit [] = tt
each_unit (n ∷ ids) = (tt, each_unit ids)

pub controls_exist : (rows : List Row) (terms : List Term) (ids : List ℕ) (field : ℕ → ℕ) (α : Assignment) → IsOrderOf rows terms ids → HasControls rows terms field α
controls_exist rows terms ids field α o =
    let rule : ℕ → (ℕ → Leaf) → Leaf = control_rule rows terms field α in
    let start : ℕ → Leaf = λ n. rule n (λ m. Number 0) in (
      evaluated_along (λ (f : ℕ → Leaf). f) changed rule start ids,
      solved (λ (f : ℕ → Leaf). f) changed (λ f n. Unit {0}) function_store rule (needs rows terms) (known rows) (rule_local rows terms field α) start ids o (each_unit ids)
          (λ n k f. rule_known rows terms field α n k (λ m. Number 0) f),
    )

pub controls_unique : (rows : List Row) (terms : List Term) (ids : List ℕ) (field : ℕ → ℕ) (α : Assignment) → IsOrderOf rows terms ids →
    (cv other : ℕ → Leaf) → AreControls rows terms field α cv → AreControls rows terms field α other → (n : ℕ) → cv n ≡ other n
controls_unique rows terms ids field α o cv other h h' =
    unique (needs rows terms) (known rows) ids o (control_rule rows terms field α) (rule_local rows terms field α) (rule_known rows terms field α) cv other h h'

-- ---- properties that leaves and words share

not_below : (x : ℕ) → signed_below x x ≡ false
not_below x = grind (arith, nat_tests)

same_swap : (x y : ℕ) → nat_eq x y ≡ nat_eq y x
same_swap x y = grind (arith, nat_tests)

module _ (f : ℕ → ℕ) where
  lt_names : (x y : ℕ) → leaf_lt (real_assignment f) (Name x) (Name y) ≡ signed_below (f x) (f y)
  lt_names x y = by (nat_eq x y) refl
    where
      by : (b : Bool) → nat_eq x y ≡ b → leaf_lt (real_assignment f) (Name x) (Name y) ≡ signed_below (f x) (f y)
      by true e = rw e (sym (ap (λ z. signed_below (f x) (f z)) (sym (eqb-true x y e)) ∙ not_below (f x)))
      by false e = rw e refl

  lt_is : (x y : Leaf) → leaf_lt (real_assignment f) x y ≡ signed_below (leaf_value f x) (leaf_value f y)
  lt_is (Name x) (Name y) = lt_names x y
  lt_is (Name x) (Number y) = refl
  lt_is (Number x) (Name y) = refl
  lt_is (Number x) (Number y) = refl

  eq_names : (x y : ℕ) → leaf_same (real_assignment f) (Name x) (Name y) ≡ nat_eq (f x) (f y)
  eq_names x y = by (nat_eq x y) refl (nat_lt x y) refl
    where
      by : (b : Bool) → nat_eq x y ≡ b → (c : Bool) → nat_lt x y ≡ c → leaf_same (real_assignment f) (Name x) (Name y) ≡ nat_eq (f x) (f y)
      by true e c l = rw e (sym (ap (λ z. nat_eq (f x) (f z)) (sym (eqb-true x y e)) ∙ eqb_self (f x)))
      by false e true l = rw (e, l) refl
      by false e false l = rw (e, l) (same_swap (f y) (f x))

  eq_is : (x y : Leaf) → leaf_same (real_assignment f) x y ≡ nat_eq (leaf_value f x) (leaf_value f y)
  eq_is (Name x) (Name y) = eq_names x y
  eq_is (Name x) (Number y) = refl
  eq_is (Number x) (Name y) = same_swap (f y) x
  eq_is (Number x) (Number y) = refl

  cmp_is : (o : CmpOp) (x y : Leaf) → leaf_cmp (real_assignment f) o x y ≡ compare_words o (leaf_value f x) (leaf_value f y)
  cmp_is op.Eq x y = eq_is x y
  cmp_is op.Ne x y = ap not (eq_is x y)
  cmp_is op.Lt x y = lt_is x y
  cmp_is op.Le x y = ap not (lt_is y x)
  cmp_is op.Gt x y = lt_is y x
  cmp_is op.Ge x y = ap not (lt_is x y)

  abbrev Worth : Leaf → ℕ → Type 0
  Worth x n = leaf_value f x ≡ n

  alike : Alike (leaf_meaning (real_assignment f)) word_meaning (λ x n. leaf_value f x ≡ n)
  alike = record {
    nums = λ n. refl;
    bools = λ b. refl;
    holds = λ x n e. ap not (eq_is x (Number 0)) ∙ ap (λ z. not (nat_eq z 0)) e;
    compares = λ o x x' y y' e e'. cmp_is o x x' ∙ (ap (λ z. compare_words o z (leaf_value f x')) e ∙ ap (compare_words o y) e');
  }

  pub worth_value : (cv : ℕ → Leaf) (t : Term) → AllByRecursion (λ m. leaf_value f (cv m) ≡ f m) (names t) → leaf_value f (value (leaf_meaning (real_assignment f)) cv t) ≡ value word_meaning f t
  worth_value cv t h = related (leaf_meaning (real_assignment f)) word_meaning (λ x n. leaf_value f x ≡ n) alike cv f t h

pub agreement : ControlsAgree
agreement rows terms ids field f cv o controls defined given = along (needs rows terms) (known rows) (λ n. leaf_value f (cv n) ≡ f n) at_known at_unknown ids o
  where
    past : (n : ℕ) → slice_get rows n ≡ None → leaf_value f (cv n) ≡ f n
    past n e = ap (leaf_value f) (controls n ∙ rule_past rows terms field (real_assignment f) n cv e) ∙ sym (defined.past n e)

    at_known : (n : ℕ) → is_known (known rows) n ≡ true → leaf_value f (cv n) ≡ f n
    at_known n k = by (slice_get rows n) refl
      where
        by : (x : Option Row) → slice_get rows n ≡ x → leaf_value f (cv n) ≡ f n
        by None e = past n e
        by (Some row) e =
            let is_so : is_given row.role ≡ true = sym (known_row rows n row e) ∙ k in
            given n row e (given_undefined row.role is_so) (subst (λ is. AllByRecursion (λ m. leaf_value f (cv m) ≡ f m) is) (sym (given_inputs row.role is_so)) tt)

    at_unknown : (n : ℕ) → is_known (known rows) n ≡ false → AllByRecursion (λ m. leaf_value f (cv m) ≡ f m) (needs_of (needs rows terms) n) → leaf_value f (cv n) ≡ f n
    at_unknown n u h = by (slice_get rows n) refl
      where
        row_at : (row : Row) → slice_get rows n ≡ Some row → (b : Bool) → is_defined row.role ≡ b → leaf_value f (cv n) ≡ f n
        row_at row e true d =
            let told : Leaf = value (leaf_meaning (real_assignment f)) cv (row_term rows terms n) in
            ap (leaf_value f) (controls n ∙ (rule_row rows terms field (real_assignment f) n cv row e ∙ defined_leaf field n row.class row.role told d))
            ∙ (worth_value f cv (row_term rows terms n) (subst (λ is. AllByRecursion (λ m. leaf_value f (cv m) ≡ f m) is) (needs_defined rows terms n row e d) h) ∙ sym (defined.defined n row e d))
        row_at row e false d = given n row e d (subst (λ is. AllByRecursion (λ m. leaf_value f (cv m) ≡ f m) is) (needs_given rows terms n row e d) h)

        by : (x : Option Row) → slice_get rows n ≡ x → leaf_value f (cv n) ≡ f n
        by None e = past n e
        by (Some row) e = row_at row e (is_defined row.role) refl
