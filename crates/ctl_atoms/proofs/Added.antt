-- The list of atoms by first appearance, as it grows.
use Rattle.std.proofs.Common.{◌≡◌, Bool, true, false, ◌||◌, ◌&&◌, refl, sym, ap, ◌∙◌, List, [], ◌∷◌, ◌++◌, Option, Some, None, if◌then◌else◌}
use Rattle.std.proofs.lemmas.Bool.{or_right}
use Rattle.ctl_atoms.specs.declared.leaf.Atom.{Atom}
use Rattle.ctl_atoms.specs.Leaves.{has_atom, is_listed, atom_eq, leaf_eq}
use Rattle.ctl_atoms.proofs.Same.{kind_eq_self, leaf_eq_self}
use Rattle.ctl_atoms.specs.Atoms.{added, with_atom}
use Rattle.hcl_types.specs.Lists.{each}

pub added_append : (out : List Atom) (xs ys : List (Option Atom)) → added out (xs ++ ys) ≡ added (added out xs) ys
unfolding added
added_append out [] ys = refl
added_append out (x ∷ xs) ys = added_append (with_atom out x) xs ys

pub added_nil : (out : List Atom) → added out [] ≡ out
unfolding added
added_nil out = refl

pub added_one : (out : List Atom) (x : Option Atom) (xs : List (Option Atom)) → added out (x ∷ xs) ≡ added (with_atom out x) xs
unfolding added
added_one out x xs = refl

-- an atom is equal to itself, as a test
pub atom_eq_self : (a : Atom) → atom_eq a a ≡ true
atom_eq_self a = ap (λ b. b && leaf_eq a.left a.left && leaf_eq a.right a.right) (kind_eq_self a.kind) ∙ (ap (λ b. b && leaf_eq a.right a.right) (leaf_eq_self a.left) ∙ leaf_eq_self a.right)

or_map : (a b c : Bool) → (b ≡ true → c ≡ true) → a || b ≡ true → a || c ≡ true
or_map true b c f h = refl
or_map false b c f h = f h

had_more : (xs ys : List Atom) (a : Atom) → has_atom xs a ≡ true → has_atom (xs ++ ys) a ≡ true
had_more [] ys a h = cc
had_more (x ∷ xs) ys a h = or_map (atom_eq x a) (has_atom xs a) (has_atom (xs ++ ys) a) (had_more xs ys a) h

has_last : (xs : List Atom) (a : Atom) → has_atom (xs ++ a ∷ []) a ≡ true
has_last [] a = ap (λ b. b || false) (atom_eq_self a)
has_last (x ∷ xs) a = or_right (atom_eq x a) (has_atom (xs ++ a ∷ []) a) (has_last xs a)

with_keeps : (out : List Atom) (x : Option Atom) (a : Atom) → has_atom out a ≡ true → has_atom (with_atom out x) a ≡ true
with_keeps out None a h = h
with_keeps out (Some x) a h = by (has_atom out x)
  where
    by : (b : Bool) → has_atom (if b then out else out ++ x ∷ []) a ≡ true
    by true = h
    by false = had_more out (x ∷ []) a h

with_has : (out : List Atom) (a : Atom) → has_atom (with_atom out (Some a)) a ≡ true
with_has out a = by (has_atom out a) refl
  where
    by : (b : Bool) → has_atom out a ≡ b → has_atom (if b then out else out ++ a ∷ []) a ≡ true
    by true e = e
    by false e = has_last out a

added_keeps : (out : List Atom) (xs : List (Option Atom)) (a : Atom) → has_atom out a ≡ true → has_atom (added out xs) a ≡ true
unfolding added
added_keeps out [] a h = h
added_keeps out (x ∷ xs) a h = added_keeps (with_atom out x) xs a (with_keeps out x a h)

-- each atom of the comparisons is listed
pub added_lists : (out : List Atom) (xs : List (Option Atom)) → each (is_listed (added out xs)) xs ≡ true
added_lists out [] = refl
added_lists out (None ∷ xs) = ap (λ (l : List Atom). each (is_listed l) xs) (added_one out None xs) ∙ added_lists out xs
added_lists out (Some a ∷ xs) =
    ap (λ (l : List Atom). has_atom l a && each (is_listed l) xs) (added_one out (Some a) xs)
    ∙ (ap (λ b. b && each (is_listed (added (with_atom out (Some a)) xs)) xs) (added_keeps (with_atom out (Some a)) xs a (with_has out a))
    ∙ added_lists (with_atom out (Some a)) xs)

pub added_three : (out : List Atom) (a b c : List (Option Atom)) → added (added (added out a) b) c ≡ added out (a ++ (b ++ c))
added_three out a b c = sym (added_append out a (b ++ c) ∙ added_append (added out a) b c)

pub added_pair : (out : List Atom) (a b c : List (Option Atom)) → added (added (added out a) b) c ≡ added out ((a ++ b) ++ c)
added_pair out a b c = sym (added_append out (a ++ b) c ∙ ap (λ (xs : List Atom). added xs c) (added_append out a b))
