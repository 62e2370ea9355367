-- Laws of truths that the kit's std doesn't have: sides of a conjunction, implications, and no truth has both values.
use Rattle.std.proofs.Common.{◌≡◌, Bool, true, false, not, ◌&&◌, ◌||◌, refl, arith}
use Rattle.std.proofs.lemmas.Bool.{and_parts}

-- a true conjunction has a true left side
pub and_first : (a b : Bool) → (a && b) ≡ true → a ≡ true
and_first a b h = (and_parts a b h).0

-- a true conjunction has a true right side
pub and_second : (a b : Bool) → (a && b) ≡ true → b ≡ true
and_second a b h = (and_parts a b h).1

-- a disjunction holds by its right side if its left side doesn't
pub unless : (a b : Bool) → (a || b) ≡ true → a ≡ false → b ≡ true
unless false b h e = h
unless true b h e = cc

-- if an implication's premise holds, its conclusion does
pub implied : (a b : Bool) → (not a || b) ≡ true → a ≡ true → b ≡ true
implied true b h e = h
implied false b h e = cc

-- if an implication's conclusion doesn't hold, its premise doesn't
pub not_implied : (a b : Bool) → (not a || b) ≡ true → b ≡ false → a ≡ false
not_implied true true h e = cc
not_implied true false h e = cc
not_implied false b h e = refl

-- no truth has both values
pub clash : {P : Type 0} (b : Bool) → b ≡ true → b ≡ false → P
clash b t f = grind (arith, t, f)
