-- The stack of open brackets, as a vector with the innermost bracket last.
use Rattle.std.proofs.Common.{◌≡◌, ℕ, ◌+◌, ◌<◌, length, false, nat_le, arith, List, [], ◌∷◌, reverse, refl, sym, add-one}
use Rattle.y86_base.proofs.Lists.{reverse_push}
use Rattle.hcl_read.specs.declared.frames.Frame.{Frame}
use Rattle.hcl_read.specs.Depth.{depth_of, level_behind}

pub no_depth : depth_of [] ≡ 0
unfolding depth_of
no_depth = refl

pub one_deeper : (frame : Frame) (k : List Frame) → depth_of (frame ∷ k) ≡ (level_behind frame).nots + depth_of k + 1
unfolding depth_of
one_deeper frame k = sym (add-one ((level_behind frame).nots + depth_of k))

pub ruleset stack_rules = (reverse_push, no_depth, one_deeper)

-- after all brackets there is still space
pub not_full : (nots deep room : ℕ) (rest : List Frame) → length rest ≡ 0 → nots + deep + room ≡ 64 + depth_of (reverse rest) → 0 < room →
    false ≡ nat_le 64 (nots + deep)
unfolding depth_of
not_full nots deep room [] e total some = let f : nots + deep + room ≡ 64 = total in grind arith
not_full nots deep room (frame ∷ rest) e total some = let no : ⊥ = omega arith in absurd no
