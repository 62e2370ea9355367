-- The words of leaves, given the values of names.
use Rattle.std.proofs.Common.{◌≡◌, ℕ, true, refl, ap}
use Rattle.std.proofs.lemmas.Bool.{eqb-true}
use Rattle.y86_base.specs.Words.{set}
use Rattle.ctl_atoms.specs.Leaves.{leaf_eq, leaf_holds}
use Rattle.ctl_atoms.specs.declared.leaf.Leaf.{Leaf}
use Rattle.ctl_atoms.specs.declared.leaf.Leaf.TheVariants.{Name, Number}
use Rattle.ctl_equations.specs.Laws.{real_assignment, leaf_value}

-- equal leaves have the same word
pub leaf_worth : (f : ℕ → ℕ) (a b : Leaf) → leaf_eq a b ≡ true → leaf_value f a ≡ leaf_value f b
leaf_worth f (Name a) (Name b) h = ap f (eqb-true a b h)
leaf_worth f (Number a) (Number b) h = eqb-true a b h
leaf_worth f (Name a) (Number b) h = cc
leaf_worth f (Number a) (Name b) h = cc

-- a leaf is true exactly if its word isn't 0
pub holds_is : (f : ℕ → ℕ) (a : Leaf) → leaf_holds (real_assignment f) a ≡ set (leaf_value f a)
holds_is f (Name n) = refl
holds_is f (Number n) = refl
