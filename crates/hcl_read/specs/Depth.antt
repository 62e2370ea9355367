-- The depth of a place: how many brackets and `!`s are open around it.
use Rattle.std.specs.Prelude.{ℕ, suc, ◌+◌, List, [], ◌∷◌}
use Rattle.hcl_read.specs.declared.frames.Level.{Level}
use Rattle.hcl_read.specs.declared.frames.Frame.{Frame}
use Rattle.hcl_read.specs.declared.frames.Frame.TheVariants.{Paren, Set, Guard, Value}

-- the level that continues after a bracket
abbrev pub level_behind : Frame → Level
level_behind (Paren side l) = l
level_behind (Set left es l) = l
level_behind (Guard side bs l) = l
level_behind (Value side bs guard l) = l

unfoldable pub depth_of : List Frame → ℕ
depth_of [] = 0
depth_of (f ∷ k) = suc ((level_behind f).nots + depth_of k)

unfoldable pub depth : Level → List Frame → ℕ
depth l k = l.nots + depth_of k
