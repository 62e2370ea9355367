-- Rows of a table: what they need, which are known, and their equation.
use Rattle.std.proofs.Common.{◌≡◌, ℕ, zero, suc, ◌+◌, Bool, true, false, cond, List, [], ◌∷◌, length, take, Option, Some, None, slice_get, if◌then◌else◌, refl, sym, ap, ◌∙◌, subst, arith}
use Rattle.std.specs.List.{AllByRecursion}
use Rattle.std.proofs.lemmas.Option.{same_Some}
use Rattle.y86_base.proofs.Booleans.{clash}
use Rattle.hcl_types.specs.declared.term.Term.{Term}
use Rattle.hcl_types.specs.declared.table.Class.{Class}
use Rattle.hcl_types.specs.declared.table.Role.{Role}
use Rattle.hcl_types.specs.declared.table.Role.TheVariants.{Constant, State, Hardware, Defined}
use Rattle.hcl_types.specs.declared.table.Row.{Row}
use Rattle.hcl_types.specs.Equations.{IsLocal, is_known, needs_of}
use Rattle.hcl_types.specs.Tables.{is_defined, is_given, inputs, defined, known, needs, needs_from, term_at}
use Rattle.hcl_types.specs.Terms.{names, value}
use Rattle.hcl_types.proofs.Related.{local_value}
use Rattle.ctl_atoms.specs.declared.leaf.Leaf.{Leaf}
use Rattle.ctl_atoms.specs.declared.leaf.Leaf.TheVariants.{Number}
use Rattle.ctl_atoms.specs.Leaves.{Assignment, leaf_meaning}
use Rattle.ctl_atoms.specs.Rows.{row_term}
use Rattle.ctl_atoms.proofs.Solved.{known_row, needs_defined}
use Rattle.ctl_equations.specs.Controls.{role_leaf, row_leaf, control_rule}

pub known_past : (rows : List Row) (n : ℕ) → slice_get rows n ≡ None → is_known (known rows) n ≡ true
known_past [] n e = refl
known_past (r ∷ rows) zero e = cc
known_past (r ∷ rows) (suc n) e = known_past rows n e

-- what a row needs, if i defined rows come before it
abbrev needed : List Term → Row → ℕ → List ℕ
needed terms row i = if is_defined row.role then names (term_at terms i) else inputs row.role

place_more : (b : Bool) (k : ℕ) (r : Row) (rs : List Row) → (if b then k + 1 else k) + length rs ≡ k + length (cond b (r ∷ rs) rs)
place_more true k r rs = omega arith
place_more false k r rs = refl

needs_from_row : (k : ℕ) (rows : List Row) (terms : List Term) (n : ℕ) (row : Row) → slice_get rows n ≡ Some row →
    needs_of (needs_from k rows terms) n ≡ needed terms row (k + length (defined (take n rows)))
needs_from_row k [] terms n row e = cc
needs_from_row k (r ∷ rows) terms zero row e = ap (λ (x : Row). needed terms x k) (same_Some r row e) ∙ ap (needed terms row) (let same : k ≡ k + 0 = omega arith in same)
needs_from_row k (r ∷ rows) terms (suc n) row e =
    needs_from_row (if is_defined r.role then k + 1 else k) rows terms n row e
    ∙ ap (needed terms row) (place_more (is_defined r.role) k r (defined (take n rows)))

pub needs_row : (rows : List Row) (terms : List Term) (n : ℕ) (row : Row) → slice_get rows n ≡ Some row →
    needs_of (needs rows terms) n ≡ (if is_defined row.role then names (row_term rows terms n) else inputs row.role)
needs_row rows terms n row e =
    needs_from_row 0 rows terms n row e ∙ ap (needed terms row) (let same : 0 + length (defined (take n rows)) ≡ length (defined (take n rows)) = omega arith in same)

pub needs_given : (rows : List Row) (terms : List Term) (n : ℕ) (row : Row) → slice_get rows n ≡ Some row → is_defined row.role ≡ false → needs_of (needs rows terms) n ≡ inputs row.role
needs_given rows terms n row e d = needs_row rows terms n row e ∙ ap (λ b. if b then names (row_term rows terms n) else inputs row.role) d

pub given_undefined : (role : Role) → is_given role ≡ true → is_defined role ≡ false
given_undefined (Constant k) e = refl
given_undefined State e = refl
given_undefined (Hardware ids) e = cc
given_undefined Defined e = cc

pub given_inputs : (role : Role) → is_given role ≡ true → inputs role ≡ []
given_inputs (Constant k) e = refl
given_inputs State e = refl
given_inputs (Hardware ids) e = cc
given_inputs Defined e = cc

-- only a defined row depends on its term
role_same : (field : ℕ → ℕ) (n : ℕ) (class : Class) (role : Role) (x y : Leaf) → (is_defined role ≡ true → x ≡ y) → role_leaf field n class role x ≡ role_leaf field n class role y
role_same field n class (Constant k) x y h = refl
role_same field n class State x y h = refl
role_same field n class (Hardware ids) x y h = refl
role_same field n class Defined x y h = h refl

pub defined_leaf : (field : ℕ → ℕ) (n : ℕ) (class : Class) (role : Role) (x : Leaf) → is_defined role ≡ true → role_leaf field n class role x ≡ x
defined_leaf field n class (Constant k) x h = cc
defined_leaf field n class State x h = cc
defined_leaf field n class (Hardware ids) x h = cc
defined_leaf field n class Defined x h = refl

module _ (rows : List Row) (terms : List Term) (field : ℕ → ℕ) (α : Assignment) where
  pub rule_past : (n : ℕ) (cv : ℕ → Leaf) → slice_get rows n ≡ None → control_rule rows terms field α n cv ≡ Number 0
  unfolding control_rule
  rule_past n cv e = ap (λ (o : Option Row). row_leaf field n o (value (leaf_meaning α) cv (row_term rows terms n))) e

  pub rule_row : (n : ℕ) (cv : ℕ → Leaf) (row : Row) → slice_get rows n ≡ Some row → control_rule rows terms field α n cv ≡ role_leaf field n row.class row.role (value (leaf_meaning α) cv (row_term rows terms n))
  unfolding control_rule
  rule_row n cv row e = ap (λ (o : Option Row). row_leaf field n o (value (leaf_meaning α) cv (row_term rows terms n))) e

  same_at : (n : ℕ) (f g : ℕ → Leaf) → ((row : Row) → slice_get rows n ≡ Some row → is_defined row.role ≡ true → value (leaf_meaning α) f (row_term rows terms n) ≡ value (leaf_meaning α) g (row_term rows terms n)) →
      control_rule rows terms field α n f ≡ control_rule rows terms field α n g
  same_at n f g h = by (slice_get rows n) refl
    where
      by : (o : Option Row) → slice_get rows n ≡ o → control_rule rows terms field α n f ≡ control_rule rows terms field α n g
      by None e = rule_past n f e ∙ sym (rule_past n g e)
      by (Some row) e = rule_row n f row e ∙ (role_same field n row.class row.role _ _ (h row e) ∙ sym (rule_row n g row e))

  pub rule_local : IsLocal (control_rule rows terms field α) (needs rows terms)
  rule_local n f g h = same_at n f g (λ row e d. local_value (leaf_meaning α) f g (row_term rows terms n) (subst (λ ids. AllByRecursion (λ m. f m ≡ g m) ids) (needs_defined rows terms n row e d) h))

  -- the equation of a known row reads nothing
  pub rule_known : (n : ℕ) → is_known (known rows) n ≡ true → (f g : ℕ → Leaf) → control_rule rows terms field α n f ≡ control_rule rows terms field α n g
  rule_known n k f g = same_at n f g (λ row e d. clash (is_defined row.role) d (given_undefined row.role (sym (known_row rows n row e) ∙ k)))
