-- What a sound table and a design bound to it imply about the needs of rows.
use Rattle.std.proofs.Common.{◌≡◌, ◌+◌, ◌<◌, ℕ, zero, suc, Bool, true, false, if◌then◌else◌, List, [], ◌∷◌, length, refl, sym, ap, subst, ◌∙◌}
use Rattle.std.specs.List.{AllByRecursion}
use Rattle.hcl_types.specs.declared.term.Term.{Term}
use Rattle.hcl_types.specs.declared.term.Term.TheOpen.{Term-F}
use Rattle.hcl_types.specs.declared.term.Term.TheFolds.{fold-roll-Term}
use Rattle.hcl_types.specs.declared.term.Term.TheVariants.{Num, rolls-Num}
use Rattle.hcl_types.specs.declared.table.Role.{Role}
use Rattle.hcl_types.specs.declared.table.Role.TheVariants.{Constant, State, Hardware, Defined}
use Rattle.hcl_types.specs.declared.table.Row.{Row}
use Rattle.hcl_types.specs.Lists.{IsIn}
use Rattle.hcl_types.specs.Terms.{names, names_in_layer, names_in_branch}
use Rattle.hcl_types.specs.Equations.{is_known, needs_of}
use Rattle.hcl_types.specs.Tables.{IsSound, IsBound, needs, needs_from, known, inputs, is_defined, is_given, term_at}
use Rattle.hcl_types.proofs.Each.{each_in}
use Rattle.hcl_order.specs.Layers.{IsWithin}

length-needs : (k : ℕ) (rows : List Row) (terms : List Term) → length (needs_from k rows terms) ≡ length rows
length-needs k [] terms = refl
length-needs k (row ∷ rows) terms = ap suc (length-needs (if is_defined row.role then k + 1 else k) rows terms)

pub needs-length : (rows : List Row) (terms : List Term) → length (needs rows terms) ≡ length rows
needs-length rows terms = length-needs 0 rows terms

pub known-length : (rows : List Row) → length (known rows) ≡ length rows
known-length [] = refl
known-length (row ∷ rows) = ap suc (known-length rows)

no_names : names (Num 0) ≡ []
no_names = ap names (sym (rolls-Num 0)) ∙ fold-roll-Term (List ℕ) (List ℕ) names_in_layer names_in_branch (Term-F.Num 0)

term_inside : (bound k : ℕ) (terms : List Term) → AllByRecursion (λ t. AllByRecursion (λ id. id < bound) (names t)) terms → AllByRecursion (λ id. id < bound) (names (term_at terms k))
term_inside bound k [] h = rw no_names tt
term_inside bound zero (t ∷ terms) h = h.0
term_inside bound (suc k) (t ∷ terms) h = term_inside bound k terms h.1

own_inside : (bound k : ℕ) (row : Row) (terms : List Term) (b : Bool) → is_defined row.role ≡ b → AllByRecursion (λ id. id < bound) (inputs row.role) → AllByRecursion (λ t. AllByRecursion (λ id. id < bound) (names t)) terms
    → AllByRecursion (λ id. id < bound) (if is_defined row.role then names (term_at terms k) else inputs row.role)
own_inside bound k row terms true e i h = rw e (term_inside bound k terms h)
own_inside bound k row terms false e i h = rw e i

needs_inside : (bound k : ℕ) (rows : List Row) (terms : List Term) → AllByRecursion (λ (row : Row). AllByRecursion (λ id. id < bound) (inputs row.role)) rows
    → AllByRecursion (λ t. AllByRecursion (λ id. id < bound) (names t)) terms → (a : ℕ) → AllByRecursion (λ id. id < bound) (needs_of (needs_from k rows terms) a)
needs_inside bound k [] terms r h a = tt
needs_inside bound k (row ∷ rows) terms r h zero = own_inside bound k row terms (is_defined row.role) refl r.0 h
needs_inside bound k (row ∷ rows) terms r h (suc a) = needs_inside bound (if is_defined row.role then k + 1 else k) rows terms r.1 h a

pub within : (rows : List Row) (terms : List Term) → IsSound rows → IsBound rows terms → IsWithin (needs rows terms)
within rows terms s b a n i = subst (λ x. n < x) (sym (needs-length rows terms))
    (each_in (λ id. id < length rows) (needs_of (needs rows terms) a) n (needs_inside (length rows) 0 rows terms s.inside b.inside a) i)

none_given : (role : Role) (own : List ℕ) → is_given role ≡ true → (n : ℕ) → IsIn n (if is_defined role then own else inputs role) → ⊥
none_given (Constant c) own e n i = i
none_given State own e n i = i
none_given (Hardware ids) own e n i = absurd (cc)
none_given Defined own e n i = absurd (cc)

given_needs : (k : ℕ) (rows : List Row) (terms : List Term) (a n : ℕ) → is_known (known rows) a ≡ true → IsIn n (needs_of (needs_from k rows terms) a) → ⊥
given_needs k [] terms a n e i = i
given_needs k (row ∷ rows) terms zero n e i = none_given row.role (names (term_at terms k)) e n i
given_needs k (row ∷ rows) terms (suc a) n e i = given_needs (if is_defined row.role then k + 1 else k) rows terms a n e i

pub given_rows : (rows : List Row) (terms : List Term) (a n : ℕ) → is_known (known rows) a ≡ true → IsIn n (needs_of (needs rows terms) a) → ⊥
given_rows rows terms = given_needs 0 rows terms
