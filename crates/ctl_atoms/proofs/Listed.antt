-- The list of atoms has each of them once, and each that a definition needs.
use Rattle.std.proofs.Common.{◌≡◌, ℕ, Bool, true, false, List, [], ◌∷◌, ◌++◌, map, Option, Some, None, if◌then◌else◌, IsTrue, refl, sym, ap, ◌∙◌, inl, inr, arith}
use Rattle.std.specs.List.{AllByRecursion}
use Rattle.std.proofs.lemmas.Bool.{or_parts, and_parts}
use Rattle.hcl_types.specs.declared.term.Term.{Term}
use Rattle.hcl_types.specs.Lists.{IsApart, IsIn, each}
use Rattle.ctl_atoms.specs.declared.leaf.Leaf.{Leaf}
use Rattle.ctl_atoms.specs.declared.leaf.Atom.{Atom}
use Rattle.ctl_atoms.specs.Leaves.{atom_eq, has_atom, is_listed}
use Rattle.ctl_atoms.specs.TermAtoms.{atoms_of_all, term_atoms}
use Rattle.ctl_atoms.specs.Atoms.{added, atoms_of, with_atom}
use Rattle.ctl_atoms.proofs.Added.{added_lists, atom_eq_self}

each_split : {A : Type 0} (p : A → Bool) (xs ys : List A) → each p (xs ++ ys) ≡ true → (each p xs ≡ true) × (each p ys ≡ true)
each_split p [] ys h = (refl, h)
each_split p (x ∷ xs) ys h =
    let here = and_parts (p x) (each p (xs ++ ys)) h in
    let rest = each_split p xs ys here.1 in
    (rw (here.0, rest.0) refl, rest.1)

all_listed : (atoms : List Atom) (leaves : ℕ → List Leaf) (terms : List Term) → each (is_listed atoms) (atoms_of_all (map (term_atoms leaves) terms)) ≡ true →
    AllByRecursion (λ t. IsTrue (each (is_listed atoms) (term_atoms leaves t).asks)) terms
all_listed atoms leaves [] h = tt
all_listed atoms leaves (t ∷ ts) h =
    let parts = each_split (is_listed atoms) (term_atoms leaves t).asks (atoms_of_all (map (term_atoms leaves) ts)) h in
    (parts.0, all_listed atoms leaves ts parts.1)

-- each atom of a definition is in the list
pub listed : (leaves : ℕ → List Leaf) (terms : List Term) → AllByRecursion (λ t. IsTrue (each (is_listed (atoms_of leaves terms)) (term_atoms leaves t).asks)) terms
listed leaves terms = all_listed (atoms_of leaves terms) leaves terms (added_lists [] (atoms_of_all (map (term_atoms leaves) terms)))

-- an atom that the test doesn't find isn't in the list
not_in : (xs : List Atom) (a : Atom) → has_atom xs a ≡ false → IsIn a xs → ⊥
not_in [] a h i = i
not_in (x ∷ xs) a h (inl e) =
    let first = (or_parts (atom_eq x a) (has_atom xs a) h).0 in
    let same : atom_eq x a ≡ true = ap (λ (z : Atom). atom_eq z a) (sym e) ∙ atom_eq_self a in
    grind (arith, first, same)
not_in (x ∷ xs) a h (inr i) = not_in xs a (or_parts (atom_eq x a) (has_atom xs a) h).1 i

in_more : (xs : List Atom) (a b : Atom) → IsIn b (xs ++ a ∷ []) → (b ≡ a → ⊥) → (IsIn b xs → ⊥) → ⊥
in_more [] a b (inl e) p q = p e
in_more [] a b (inr i) p q = i
in_more (x ∷ xs) a b (inl e) p q = q (inl e)
in_more (x ∷ xs) a b (inr i) p q = in_more xs a b i p (λ j. q (inr j))

put_apart : (xs : List Atom) (a : Atom) → IsApart xs → (IsIn a xs → ⊥) → IsApart (xs ++ a ∷ [])
put_apart [] a h n = (λ i. i, tt)
put_apart (x ∷ xs) a h n = (λ i. in_more xs a x i (λ e. n (inl (sym e))) h.0, put_apart xs a h.1 (λ i. n (inr i)))

with_apart : (out : List Atom) (x : Option Atom) → IsApart out → IsApart (with_atom out x)
with_apart out None h = h
with_apart out (Some a) h = by (has_atom out a) refl
  where
    by : (b : Bool) → has_atom out a ≡ b → IsApart (if b then out else out ++ a ∷ [])
    by true e = h
    by false e = put_apart out a h (not_in out a e)

added_apart : (out : List Atom) (xs : List (Option Atom)) → IsApart out → IsApart (added out xs)
unfolding added
added_apart out [] h = h
added_apart out (x ∷ xs) h = added_apart (with_atom out x) xs (with_apart out x h)

-- no atom is in the list twice
pub apart : (leaves : ℕ → List Leaf) (terms : List Term) → IsApart (atoms_of leaves terms)
apart leaves terms = added_apart [] (atoms_of_all (map (term_atoms leaves) terms)) tt
