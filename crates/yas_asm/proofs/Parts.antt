-- From an equation of lists, of options or of tests follow equations of their parts.
use Rattle.std.proofs.Common.{◌≡◌, ◌≤◌, ℕ, sym, Bool, true, false, cond, List, [], ◌∷◌, ◌++◌, Option, None, Some, refl, arith}
use Rattle.std.specs.Prelude.{is_some, is_none, nat_le}
use Rattle.std.proofs.lemmas.Option.{none-some}
use Rattle.std.proofs.lemmas.Bool.Decides.{nat_tests}

pub head_is : {A : Type 0} (x y : A) (xs ys : List A) → x ∷ xs ≡ y ∷ ys → x ≡ y
head_is x y xs ys e = cc

pub tail_is : {A : Type 0} (x y : A) (xs ys : List A) → x ∷ xs ≡ y ∷ ys → xs ≡ ys
tail_is x y xs ys e = cc

pub no_cons : {A : Type 0} (x : A) (xs : List A) → [] ≡ x ∷ xs → ⊥
no_cons x xs e = cc

pub not_here : {A : Type 0} (b : Bool) (x : A) (rest : Option A) → cond b (Some x) rest ≡ None → (b ≡ false) × (rest ≡ None)
not_here true x rest e = absurd (none-some x (sym e))
not_here false x rest e = (refl, e)

pub some_from_none : {A : Type 0} (o : Option A) → is_none o ≡ false → is_some o ≡ true
some_from_none None e = cc
some_from_none (Some x) e = refl

pub at_most : (n m : ℕ) → nat_le n m ≡ true → n ≤ m
at_most n m e = grind (arith, nat_tests)

pub no_middle : {A : Type 0} (front rest : List A) (x : A) → [] ≡ front ++ x ∷ rest → ⊥
no_middle [] rest x e = cc
no_middle (y ∷ front) rest x e = cc
