-- If no atom is listed twice, the bits of the atoms are the truths that they give.
use Rattle.std.proofs.Common.{◌≡◌, ℕ, zero, suc, ◌+◌, Bool, true, false, if◌then◌else◌, List, [], ◌∷◌, get_or, slice_get, Some, refl, sym, ap, ◌∙◌, subst, inl, inr, arith}
use Rattle.std.proofs.lemmas.Option.{same_Some}
use Rattle.hcl_types.specs.Lists.{IsApart, IsIn}
use Rattle.ctl_atoms.specs.declared.leaf.Atom.{Atom}
use Rattle.ctl_atoms.specs.Leaves.{AtomsAre, atom_eq}
use Rattle.ctl_atoms.proofs.Same.{atom_eq_true}
use Rattle.ctl_atoms.proofs.Added.{atom_eq_self}
use Rattle.control_values.specs.Given.{assigned, truth_from}

stands : (xs : List Atom) (k : ℕ) (a : Atom) → slice_get xs k ≡ Some a → IsIn a xs
stands [] k a e = cc
stands (x ∷ xs) zero a e = inl (sym (same_Some x a e))
stands (x ∷ xs) (suc k) a e = inr (stands xs k a e)

at_head : (b : Bool) (x y : Bool) → b ≡ true → x ≡ (if b then x else y)
at_head true x y e = refl
at_head false x y e = cc

behind : (b : Bool) (x y z : Bool) → (b ≡ true → ⊥) → z ≡ y → z ≡ (if b then x else y)
behind true x y z apart e = absurd (apart refl)
behind false x y z apart e = e

pub given_from : (xs : List Atom) (first : ℕ) (w : List Bool) → IsApart xs → (k : ℕ) (a : Atom) → slice_get xs k ≡ Some a → get_or w (first + k) false ≡ truth_from first xs w a
given_from [] first w apart k a e = cc
given_from (x ∷ xs) first w apart zero a e =
    ap (λ n. get_or w n false) (let z : first + 0 ≡ first = omega arith in z)
    ∙ at_head (atom_eq x a) (get_or w first false) (truth_from (first + 1) xs w a) (subst (λ (y : Atom). atom_eq x y ≡ true) (same_Some x a e) (atom_eq_self x))
given_from (x ∷ xs) first w apart (suc k) a e =
    behind (atom_eq x a) (get_or w first false) (truth_from (first + 1) xs w a) (get_or w (first + suc k) false)
    (λ same. apart.0 (subst (λ (y : Atom). IsIn y xs) (sym (atom_eq_true x a same)) (stands xs k a e)))
    (ap (λ n. get_or w n false) (let z : first + suc k ≡ (first + 1) + k = omega arith in z) ∙ given_from xs (first + 1) w apart.1 k a e)

pub given_atoms : (xs : List Atom) (first : ℕ) (w : List Bool) → IsApart xs → AtomsAre xs first w (assigned xs first w)
given_atoms xs first w apart = λ k a e. given_from xs first w apart k a e
