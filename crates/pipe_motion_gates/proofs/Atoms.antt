-- If a list has an atom at some index, the atom is in the list.
use Rattle.std.proofs.Common.{◌≡◌, ℕ, zero, suc, true, List, [], ◌∷◌, Option, Some, unwrap_or, slice_get, ap, subst}
use Rattle.std.proofs.lemmas.Bool.{or_left, or_right}
use Rattle.ctl_atoms.specs.declared.leaf.Atom.{Atom}
use Rattle.ctl_atoms.specs.Leaves.{has_atom, atom_eq}
use Rattle.ctl_atoms.proofs.Added.{atom_eq_self}

pub has_at : (atoms : List Atom) (k : ℕ) (a : Atom) → slice_get atoms k ≡ Some a → has_atom atoms a ≡ true
has_at [] k a e = cc
has_at (x ∷ xs) zero a e =
    let s : x ≡ a = ap (λ (o : Option Atom). unwrap_or o x) e in
    subst (λ (z : Atom). has_atom (x ∷ xs) z ≡ true) s (or_left (atom_eq x x) (has_atom xs x) (atom_eq_self x))
has_at (x ∷ xs) (suc k) a e = or_right (atom_eq x a) (has_atom xs a) (has_at xs k a e)
