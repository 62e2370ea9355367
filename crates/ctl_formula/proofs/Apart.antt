-- The picks of a name have each leaf once.
use Rattle.std.proofs.Common.{◌≡◌, ◌⊎◌, ℕ, ◌<◌, Bool, true, false, ◌||◌, List, [], ◌∷◌, ◌++◌, length, map, Option, Some, None, slice_get, IsTrue, if◌then◌else◌, refl, sym, ap, ◌∙◌, subst, arith, inl, inr}
use Rattle.std.proofs.lemmas.Option.{slice_get_within}
use Rattle.std.specs.List.{AllByRecursion}
use Rattle.std.proofs.lemmas.Bool.{or_parts}
use Rattle.y86_base.proofs.Booleans.{clash}
use Rattle.y86_base.proofs.Lists.{element_at}
use Rattle.nets.specs.Nets.{Gates}
use Rattle.hcl_types.specs.declared.term.Term.{Term}
use Rattle.hcl_types.specs.declared.term.TermBranch.{TermBranch}
use Rattle.hcl_types.specs.declared.table.Class.{Class}
use Rattle.hcl_types.specs.declared.table.Class.TheVariants as class
use Rattle.hcl_types.specs.declared.table.Role.{Role}
use Rattle.hcl_types.specs.declared.table.Role.TheVariants.{Constant, State, Hardware, Defined}
use Rattle.hcl_types.specs.declared.table.Row.{Row}
use Rattle.hcl_types.specs.Equations.{IsSolution}
use Rattle.hcl_types.specs.Tables.{IsOrderOf, is_defined, known, needs}
use Rattle.hcl_types.specs.Terms.{names}
use Rattle.hcl_types.proofs.Inductions.{induct}
use Rattle.hcl_types.proofs.Orders.{along}
use Rattle.hcl_types.proofs.Values.{names_Name}
use Rattle.ctl_atoms.specs.declared.leaf.Leaf.{Leaf}
use Rattle.ctl_atoms.specs.declared.leaf.Leaf.TheVariants.{Number}
use Rattle.ctl_atoms.specs.declared.leaf.Atom.{Atom}
use Rattle.ctl_atoms.specs.Leaves.{leaf_eq}
use Rattle.ctl_atoms.specs.TermAtoms.{TermAtoms, term_atoms, branch_plan, case_leaves, has_leaf, joined, once}
use Rattle.ctl_atoms.specs.Rows.{row_term, codes, leaf_rule, leaves_by_role, leaves_of_row, field_leaves, defined_leaves}
use Rattle.ctl_atoms.proofs.Plans.{plan_Num, plan_Name, plan_Not, plan_And, plan_Or, plan_Cmp, plan_In, plan_Case}
use Rattle.ctl_atoms.proofs.Same.{leaf_eq_true, leaf_eq_self}
use Rattle.ctl_atoms.proofs.Solved.{known_row, needs_defined}
use Rattle.ctl_picks.specs.declared.controls.Entry.{Entry}
use Rattle.ctl_picks.specs.declared.controls.Entry.TheVariants.{Absent}
use Rattle.ctl_given.specs.declared.places.Place.{Place}
use Rattle.ctl_picks.specs.Picks.{entry_word, entry_picks, leaves_of}
use Rattle.ctl_picks.specs.Entries.{IsEntryOf}
use Rattle.ctl_formula.specs.Encoding.{IsPartialEncoding}
use Rattle.ctl_picks.specs.Laws.{Apart, AreApart}
use Rattle.ctl_equations.proofs.Rows.{given_undefined}

leaf_swap : (x y : Leaf) → leaf_eq y x ≡ false → leaf_eq x y ≡ false
leaf_swap x y h = by (leaf_eq x y) refl
  where
    by : (b : Bool) → leaf_eq x y ≡ b → b ≡ false
    by false e = refl
    by true e =
        let same = leaf_eq_true x y e in
        let wrong : true ≡ false = sym (leaf_eq_self y) ∙ (ap (λ z. leaf_eq y z) (sym same) ∙ h) in
        wrong

has_push : (xs : List Leaf) (x y : Leaf) → has_leaf xs y ≡ false → leaf_eq x y ≡ false → has_leaf (xs ++ x ∷ []) y ≡ false
has_push [] x y h e = ap (λ b. b || false) e
has_push (z ∷ xs) x y h e =
    let parts = or_parts (leaf_eq z y) (has_leaf xs y) h in
    ap (λ b. b || has_leaf (xs ++ x ∷ []) y) parts.0 ∙ has_push xs x y parts.1 e

apart_push : (xs : List Leaf) (x : Leaf) → Apart xs → has_leaf xs x ≡ false → Apart (xs ++ x ∷ [])
apart_push [] x a h = (refl, tt)
apart_push (y ∷ xs) x a h =
    let parts = or_parts (leaf_eq y x) (has_leaf xs x) h in
    (has_push xs x y a.0 (leaf_swap x y parts.0), apart_push xs x a.1 parts.1)

once_apart : (xs : List Leaf) (x : Leaf) → Apart xs → Apart (once xs x)
once_apart xs x a = by (has_leaf xs x) refl
  where
    by : (b : Bool) → has_leaf xs x ≡ b → Apart (if b then xs else xs ++ x ∷ [])
    by true e = a
    by false e = apart_push xs x a e

joined_apart : (xs ys : List Leaf) → Apart xs → Apart (joined xs ys)
joined_apart xs [] a = a
joined_apart xs (y ∷ ys) a = joined_apart (once xs y) ys (once_apart xs y a)

case_apart : (xs : List Leaf) (bs : List (TermAtoms × TermAtoms)) → Apart xs → Apart (case_leaves xs bs)
case_apart xs [] a = once_apart xs (Number 0) a
case_apart xs (b ∷ bs) a = by (case_apart (joined xs b.1.leaves) bs (joined_apart xs b.1.leaves a)) b.0.one
  where
    by : Apart (case_leaves (joined xs b.1.leaves) bs) → (o : Bool) → Apart (if o then joined xs b.1.leaves else case_leaves (joined xs b.1.leaves) bs)
    by rest true = joined_apart xs b.1.leaves a
    by rest false = rest

module _ (own : ℕ → List Leaf) where
  plan_apart : (t : Term) → AllByRecursion (λ id. Apart (own id)) (names t) → Apart (term_atoms own t).leaves
  plan_apart = induct (λ t. AllByRecursion (λ id. Apart (own id)) (names t) → Apart (term_atoms own t).leaves) (λ (b : TermBranch). Unit {0})
      (λ n h. subst Apart (sym (ap (λ (p : TermAtoms). p.leaves) (plan_Num own n))) (refl, tt))
      (λ id h. subst Apart (sym (ap (λ (p : TermAtoms). p.leaves) (plan_Name own id))) (subst (AllByRecursion (λ id. Apart (own id))) (names_Name id) h).0)
      (λ t g h. subst Apart (sym (ap (λ (p : TermAtoms). p.leaves) (plan_Not own t))) tt)
      (λ ts g h. subst Apart (sym (ap (λ (p : TermAtoms). p.leaves) (plan_And own ts))) tt)
      (λ ts g h. subst Apart (sym (ap (λ (p : TermAtoms). p.leaves) (plan_Or own ts))) tt)
      (λ o t u g g' h. subst Apart (sym (ap (λ (p : TermAtoms). p.leaves) (plan_Cmp own o t u))) tt)
      (λ t us g g' h. subst Apart (sym (ap (λ (p : TermAtoms). p.leaves) (plan_In own t us))) tt)
      (λ cs g h. subst Apart (sym (ap (λ (p : TermAtoms). p.leaves) (plan_Case own cs))) (case_apart [] (map (branch_plan own) cs) tt))
      (λ b g g'. tt)

codes_apart : Apart codes
codes_apart = (refl, (refl, (refl, (refl, (refl, (refl, (refl, (refl, (refl, (refl, (refl, (refl, (refl, (refl, (refl, (refl, tt))))))))))))))))

field_apart : (class : Class) (n : ℕ) → Apart (field_leaves class n)
field_apart class.Number n = (refl, tt)
field_apart class.Code n = codes_apart
field_apart class.Value n = (refl, tt)
field_apart class.Truth n = tt

class_apart : (class : Class) (xs : List Leaf) → Apart xs → Apart (defined_leaves class xs)
class_apart class.Number xs a = a
class_apart class.Code xs a = a
class_apart class.Value xs a = a
class_apart class.Truth xs a = tt

role_apart : (class : Class) (n : ℕ) (role : Role) (xs : List Leaf) → (is_defined role ≡ true → Apart xs) → Apart (leaves_by_role class n role xs)
role_apart class n (Constant k) xs a = (refl, tt)
role_apart class n State xs a = field_apart class n
role_apart class n (Hardware ids) xs a = field_apart class n
role_apart class n Defined xs a = class_apart class xs (a refl)

module _ (rows : List Row) (terms : List Term) (places : List Place) (asks : List Atom) (first : ℕ) (ids : List ℕ) (o : IsOrderOf rows terms ids) (own : ℕ → List Leaf) (fixed : IsSolution (leaf_rule rows terms) own) where
  row_apart : (n : ℕ) → ((row : Row) → slice_get rows n ≡ Some row → is_defined row.role ≡ true → AllByRecursion (λ m. Apart (own m)) (names (row_term rows terms n))) → Apart (own n)
  row_apart n h = subst Apart (sym (fixed n)) (by (slice_get rows n) refl)
    where
      by : (x : Option Row) → slice_get rows n ≡ x → Apart (leaves_of_row x n (term_atoms own (row_term rows terms n)).leaves)
      by None e = tt
      by (Some row) e = role_apart row.class n row.role (term_atoms own (row_term rows terms n)).leaves (λ d. plan_apart own (row_term rows terms n) (h row e d))

  leaves_apart : (n : ℕ) → Apart (own n)
  leaves_apart n = along (needs rows terms) (known rows) (λ m. Apart (own m))
      (λ m k. row_apart m (λ row r d. clash (is_defined row.role) d (given_undefined row.role (sym (known_row rows m row r) ∙ k))))
      (λ m u h. row_apart m (λ row r d. subst (AllByRecursion (λ i. Apart (own i))) (needs_defined rows terms m row r d) h))
      ids o n

  -- the picks of each name have different leaves
  pub apart_all : (net : Gates) (es : List Entry) → IsPartialEncoding rows terms places asks first net es → AreApart es
  apart_all net es h n has = by (slice_get es n) refl has
    where
      entry_apart : (e : Entry) → slice_get es n ≡ Some e → IsTrue (entry_word (Some e)) → Apart (leaves_of (entry_picks (Some e)))
      entry_apart e i t =
          let lt : n < length rows = (let q = slice_get_within es n e i in let z = h.size in omega (arith, q, z)) in
          let row = element_at rows n lt in
          kind row.0 (h.kinds own fixed n row.0 e row.1 i)
        where
          kind : (row : Row) → (e ≡ Absent) ⊎ IsEntryOf row.class (own n) e → Apart (leaves_of (entry_picks (Some e)))
          kind row (inl none) = (let no : false ≡ true = sym (ap (λ (x : Entry). entry_word (Some x)) none) ∙ t in absurd (grind (arith, no)))
          kind row (inr k) = subst Apart (sym k.own) (leaves_apart n)

      by : (x : Option Entry) → slice_get es n ≡ x → IsTrue (entry_word x) → Apart (leaves_of (entry_picks x))
      by None i t = absurd (grind (arith, t))
      by (Some e) i t = entry_apart e i t
