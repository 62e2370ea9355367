-- Valuations of a seed from an index on are those of a later seed.
use Rattle.std.proofs.Common.{◌≡◌, ℕ, ◌+◌, ◌%◌, ◌^◌, ap, arith}
use Rattle.y86_base.specs.declared.parts.Variant.{Variant}
use Rattle.prog_gen.specs.Choices.{valuation, valuation_from}

shifted_sum : (seed a b c : ℕ) → a + b ≡ c → ((seed + a) % 2 ^ 64 + b) % 2 ^ 64 ≡ (seed + c) % 2 ^ 64
shifted_sum seed a b c e = omega (arith, e)

pub shifted_seed : (v : Variant) (atoms seed a b c : ℕ) → a + b ≡ c → valuation v atoms ((seed + a) % 2 ^ 64) b ≡ valuation v atoms seed c
shifted_seed v atoms seed a b c e = ap (valuation_from v atoms) (shifted_sum seed a b c e)
