-- The leaf that is picked: the one whose gate is true.
use Rattle.std.specs.Prelude.{ℕ, Bool, false, ◌&&◌, ◌||◌, List, [], ◌∷◌, ◌≡◌}
use Rattle.ctl_atoms.specs.declared.leaf.Leaf.{Leaf}
use Rattle.ctl_picks.specs.declared.controls.Pick.{Pick}
use Rattle.ctl_atoms.specs.Leaves.{leaf_eq}
use Rattle.nets.specs.Nets.{Gates, truth}

-- some pick of the leaf has a true gate
abbrev pub leaf_taken : (ℕ → Bool) → List Pick → Leaf → Bool
leaf_taken tr [] x = false
leaf_taken tr (q ∷ qs) x = (leaf_eq q.leaf x && tr q.gate) || leaf_taken tr qs x

-- the leaf x alone is taken
pub record IsOnlyTaken (tr : ℕ → Bool) (ps : List Pick) (x : Leaf) : Type 0 where
  pub only : (y : Leaf) → leaf_taken tr ps y ≡ leaf_eq x y

-- the truths of gates at a valuation
abbrev pub at : Gates → List Bool → ℕ → Bool
at n w g = truth n g w
