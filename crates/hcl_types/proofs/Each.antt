-- Facts that hold for each element of a list, and for each element of joined lists.
use Rattle.std.proofs.Common.{ℕ, List, [], ◌∷◌, ◌++◌, map, sym, subst}
use Rattle.std.proofs.Common.{inl, inr}
use Rattle.std.specs.List.{AllByRecursion}
use Rattle.hcl_types.specs.Lists.{IsIn}
use Rattle.hcl_types.specs.Terms.{joined}

pub each_left : {A : Type 0} (P : A → Type 0) (xs ys : List A) → AllByRecursion P (xs ++ ys) → AllByRecursion P xs
each_left P [] ys h = tt
each_left P (x ∷ xs) ys h = (h.0, each_left P xs ys h.1)

pub each_right : {A : Type 0} (P : A → Type 0) (xs ys : List A) → AllByRecursion P (xs ++ ys) → AllByRecursion P ys
each_right P [] ys h = h
each_right P (x ∷ xs) ys h = each_right P xs ys h.1

pub each_more : {A : Type 0} {P Q : A → Type 0} → ((x : A) → P x → Q x) → (xs : List A) → AllByRecursion P xs → AllByRecursion Q xs
each_more f [] h = tt
each_more f (x ∷ xs) h = (f x h.0, each_more f xs h.1)

-- if P holds for each element of the joined lists, it holds for each element of each list
pub each_joined : {A : Type 0} (P : ℕ → Type 0) (f : A → List ℕ) (xs : List A) → AllByRecursion P (joined (map f xs)) → AllByRecursion (λ x. AllByRecursion P (f x)) xs
each_joined P f [] h = tt
each_joined P f (x ∷ xs) h = (each_left P (f x) (joined (map f xs)) h, each_joined P f xs (each_right P (f x) (joined (map f xs)) h))

pub each_in : {A : Type 0} (P : A → Type 0) (xs : List A) (x : A) → AllByRecursion P xs → IsIn x xs → P x
each_in P [] x h i = absurd i
each_in P (y ∷ ys) x h (inl e) = subst P (sym e) h.0
each_in P (y ∷ ys) x h (inr i) = each_in P ys x h.1 i

pub each_both : {A : Type 0} (P : A → Type 0) (xs ys : List A) → AllByRecursion P xs → AllByRecursion P ys → AllByRecursion P (xs ++ ys)
each_both P [] ys p q = q
each_both P (x ∷ xs) ys p q = (p.0, each_both P xs ys p.1 q)

-- and the converse of each_joined
pub each_joins : {A : Type 0} (P : ℕ → Type 0) (f : A → List ℕ) (xs : List A) → AllByRecursion (λ x. AllByRecursion P (f x)) xs → AllByRecursion P (joined (map f xs))
each_joins P f [] h = tt
each_joins P f (x ∷ xs) h = each_both P (f x) (joined (map f xs)) h.0 (each_joins P f xs h.1)
