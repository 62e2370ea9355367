-- When a bracket or `!` opens, the machine's test of the limit agrees with the bound in the grammar.
use Rattle.std.proofs.Common.{◌≡◌, ◌≤◌, ap, ℕ, suc, false, cond, List, ◌∷◌, length, Ok, Err, inl, inr, arith}
use Rattle.std.specs.Prelude.{◌⊎◌, nat_lt, nat_le, ◌&&◌}
use Rattle.std.proofs.lemmas.Bool.Decides.{nat_tests}
use Rattle.hcl_read.specs.declared.frames.Level.{Level}
use Rattle.hcl_read.specs.declared.frames.Frame.{Frame}
use Rattle.hcl_read.specs.declared.state.BodyMove.{BodyMove}
use Rattle.hcl_read.specs.declared.fault.HclWhy.TheVariants.{DepthOver64}
use Rattle.hcl_read.specs.declared.tokens.Token.{Token}
use Rattle.hcl_read.specs.Grammar.{Room}
use Rattle.hcl_read.specs.Depth.{depth}
use Rattle.hcl_read.specs.Machine.{opened}

room_test : (free d n : ℕ) → (suc d ≤ 64) ⊎ (suc n ≤ free) → (nat_lt free (suc n) && nat_le 64 d) ≡ false
room_test free d n (inl h) = grind (arith, nat_tests)
room_test free d n (inr h) = grind (arith, nat_tests)

pub test_room : (free d n : ℕ) → (nat_lt free (suc n) && nat_le 64 d) ≡ false → (suc d ≤ 64) ⊎ (suc n ≤ free)
test_room free d n e = grind (arith, nat_tests)

module _ (free : ℕ) (l : Level) (k : List Frame) (t : Token) (ts : List Token) where
  pub opened_room : (move : BodyMove) → Room free (suc (depth l k)) (t ∷ ts) → opened (nat_lt free (suc (length ts))) l k move ≡ Ok move
  unfolding opened
  opened_room move room = ap (λ b. cond b (Err DepthOver64) (Ok move)) (room_test free (depth l k) (length ts) room)
