-- The parts of a conjunction, one after another.
use Rattle.std.proofs.Common.{◌≡◌, Bool, true, ◌&&◌, List, [], ◌∷◌}
use Rattle.std.proofs.lemmas.Bool.{and_from}
use Rattle.y86_base.proofs.Booleans.{and_second, and_first}

-- a && b && ..
abbrev conjunction : Bool → List Bool → Bool
conjunction a [] = a
conjunction a (b ∷ bs) = conjunction (a && b) bs

-- what follows if all are true
abbrev WithAll : List Bool → Type 0 → Type 0
WithAll [] R = R
WithAll (b ∷ bs) R = b ≡ true → WithAll bs R

pub with_all : (a : Bool) (bs : List Bool) (R : Type 0) → conjunction a bs ≡ true → WithAll (a ∷ bs) R → R
with_all a [] R h go = go h
with_all a (b ∷ bs) R h go = with_all (a && b) bs R h (λ both. go (and_first a b both) (and_second a b both))

-- all of them are true
infixl 20 ◌and◌
pub ◌and◌ : {a b : Bool} → a ≡ true → b ≡ true → (a && b) ≡ true
p and q = and_from _ _ p q
