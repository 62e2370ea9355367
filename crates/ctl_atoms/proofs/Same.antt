-- Tests of leaves and atoms are equations.
use Rattle.std.proofs.Common.{◌≡◌, true, ◌&&◌, refl, ap, arith}
use Rattle.std.proofs.lemmas.Bool.Decides.{nat_tests}
use Rattle.std.proofs.lemmas.Bool.{eqb-true, and_parts}
use Rattle.ctl_atoms.specs.Leaves.{leaf_eq, kind_eq, atom_eq}
use Rattle.ctl_atoms.specs.declared.leaf.Leaf.{Leaf}
use Rattle.ctl_atoms.specs.declared.leaf.Leaf.TheVariants.{Name, Number}
use Rattle.ctl_atoms.specs.declared.leaf.AtomKind.{AtomKind}
use Rattle.ctl_atoms.specs.declared.leaf.AtomKind.TheVariants as kind
use Rattle.ctl_atoms.specs.declared.leaf.Atom.{Atom}

pub leaf_eq_true : (a b : Leaf) → leaf_eq a b ≡ true → a ≡ b
leaf_eq_true (Name x) (Name y) h = ap Name (eqb-true x y h)
leaf_eq_true (Number x) (Number y) h = ap Number (eqb-true x y h)
leaf_eq_true (Name x) (Number y) h = cc
leaf_eq_true (Number x) (Name y) h = cc

-- a leaf is equal to itself, as a test
pub leaf_eq_self : (a : Leaf) → leaf_eq a a ≡ true
leaf_eq_self (Name x) = grind (arith, nat_tests)
leaf_eq_self (Number x) = grind (arith, nat_tests)

-- and so is a kind
pub kind_eq_self : (k : AtomKind) → kind_eq k k ≡ true
kind_eq_self kind.Lt = refl
kind_eq_self kind.Eq = refl

kind_eq_true : (a b : AtomKind) → kind_eq a b ≡ true → a ≡ b
kind_eq_true kind.Lt kind.Lt h = refl
kind_eq_true kind.Lt kind.Eq h = cc
kind_eq_true kind.Eq kind.Lt h = cc
kind_eq_true kind.Eq kind.Eq h = refl

pub atom_eq_true : (a b : Atom) → atom_eq a b ≡ true → a ≡ b
atom_eq_true a b h =
    let first = and_parts (kind_eq a.kind b.kind && leaf_eq a.left b.left) (leaf_eq a.right b.right) h in
    let second = and_parts (kind_eq a.kind b.kind) (leaf_eq a.left b.left) first.0 in
    let k = kind_eq_true a.kind b.kind second.0 in
    let l = leaf_eq_true a.left b.left second.1 in
    let r = leaf_eq_true a.right b.right first.1 in
    λ i. record { kind = k i; left = l i; right = r i }
