-- Plans with at most one answer.
use Rattle.std.proofs.Common.{◌≡◌, ◌⊎◌, ℕ, List, [], ◌∷◌, Option, Some, None, Result, Ok, Err, sym, ◌∙◌, subst, inl, inr, arith}
use Rattle.cli_plans.specs.Plan.{IsAnswerOf, Answer, Plan, value_from, answers, value_in, reads, answer_in}
use Rattle.y86_answer_laws.specs.OneAnswer.{AreYes, HasOneAnswer, HasOneRefusal}

pub says_one : (P : Answer → Type 0) → ((a b : Answer) → P a → P b → a ≡ b) → HasOneAnswer (answer_in P)
says_one P one = record { one = λ contents a b p q. one a b p q }

pub answers_one : (a : Answer) → HasOneAnswer (answers a)
answers_one x = record { one = λ contents a b p q. p ∙ sym q }

read_one : (name : List ℕ) (limit : ℕ) (next : List ℕ → Plan) → ((bytes : List ℕ) → HasOneAnswer (next bytes)) → (contents : List (Option (List ℕ))) (a b : Answer) →
    IsAnswerOf (reads name limit next) contents a → IsAnswerOf (reads name limit next) contents b → a ≡ b
read_one name limit next one [] a b p q = p ∙ sym q
read_one name limit next one (None ∷ rest) a b p q = p ∙ sym q
read_one name limit next one (Some bytes ∷ rest) a b (inl p) (inl q) = p.1 ∙ sym q.1
read_one name limit next one (Some bytes ∷ rest) a b (inl p) (inr q) = absurd (omega (arith, p.0, q.0))
read_one name limit next one (Some bytes ∷ rest) a b (inr p) (inl q) = absurd (omega (arith, p.0, q.0))
read_one name limit next one (Some bytes ∷ rest) a b (inr p) (inr q) = (one bytes).one rest a b p.1 q.1

pub reads_one : (name : List ℕ) (limit : ℕ) (next : List ℕ → Plan) → ((bytes : List ℕ) → HasOneAnswer (next bytes)) → HasOneAnswer (reads name limit next)
reads_one name limit next one = record { one = read_one name limit next one }

-- a stage with one value or one answer, but not both
module _ {A : Type 0} (P : A → Type 0) (E : Answer → Type 0) (next : A → Plan) (value : (x y : A) → P x → P y → x ≡ y) (answer : (a b : Answer) → E a → E b → a ≡ b)
    (apart : (x : A) (a : Answer) → P x → E a → ⊥) (one : (x : A) → P x → HasOneAnswer (next x)) where
  stage_one : (contents : List (Option (List ℕ))) (a b : Answer) → IsAnswerOf (value_in P E next) contents a → IsAnswerOf (value_in P E next) contents b → a ≡ b
  stage_one contents a b (inl p) (inl q) = (one p.0 p.1).one contents a b p.2 (subst (λ x. IsAnswerOf (next x) contents b) (value q.0 p.0 q.1 p.1) q.2)
  stage_one contents a b (inl p) (inr e) = absurd (apart p.0 b p.1 e)
  stage_one contents a b (inr d) (inl q) = absurd (apart q.0 a q.1 d)
  stage_one contents a b (inr d) (inr e) = answer a b d e

  pub gives_one : HasOneAnswer (value_in P E next)
  gives_one = record { one = stage_one }

pub after_one : {A : Type 0} (stage : Result A Answer) (next : A → Plan) → ((x : A) → HasOneAnswer (next x)) → HasOneAnswer (value_from stage next)
unfolding value_from
after_one stage next one =
    gives_one (λ x. stage ≡ Ok x) (λ a. stage ≡ Err a) next (λ x y p q. cc (p, q)) (λ a b p q. cc (p, q)) (λ x a p q. absurd (cc (p, q))) (λ x p. one x)

-- ---- plans with one answer, except for a text

pub says_yes : (P : Answer → Type 0) → ((a b : Answer) → P a → P b → (a ≡ b) ⊎ AreYes a b) → HasOneRefusal (answer_in P)
says_yes P one = record { one = λ contents a b p q. one a b p q }

read_yes : (name : List ℕ) (limit : ℕ) (next : List ℕ → Plan) → ((bytes : List ℕ) → HasOneRefusal (next bytes)) → (contents : List (Option (List ℕ))) (a b : Answer) →
    IsAnswerOf (reads name limit next) contents a → IsAnswerOf (reads name limit next) contents b → (a ≡ b) ⊎ AreYes a b
read_yes name limit next one [] a b p q = inl (p ∙ sym q)
read_yes name limit next one (None ∷ rest) a b p q = inl (p ∙ sym q)
read_yes name limit next one (Some bytes ∷ rest) a b (inl p) (inl q) = inl (p.1 ∙ sym q.1)
read_yes name limit next one (Some bytes ∷ rest) a b (inl p) (inr q) = absurd (omega (arith, p.0, q.0))
read_yes name limit next one (Some bytes ∷ rest) a b (inr p) (inl q) = absurd (omega (arith, p.0, q.0))
read_yes name limit next one (Some bytes ∷ rest) a b (inr p) (inr q) = (one bytes).one rest a b p.1 q.1

pub reads_yes : (name : List ℕ) (limit : ℕ) (next : List ℕ → Plan) → ((bytes : List ℕ) → HasOneRefusal (next bytes)) → HasOneRefusal (reads name limit next)
reads_yes name limit next one = record { one = read_yes name limit next one }

module _ {A : Type 0} (P : A → Type 0) (E : Answer → Type 0) (next : A → Plan) (value : (x y : A) → P x → P y → x ≡ y) (answer : (a b : Answer) → E a → E b → a ≡ b)
    (apart : (x : A) (a : Answer) → P x → E a → ⊥) (one : (x : A) → P x → HasOneRefusal (next x)) where
  stage_yes : (contents : List (Option (List ℕ))) (a b : Answer) → IsAnswerOf (value_in P E next) contents a → IsAnswerOf (value_in P E next) contents b → (a ≡ b) ⊎ AreYes a b
  stage_yes contents a b (inl p) (inl q) = (one p.0 p.1).one contents a b p.2 (subst (λ x. IsAnswerOf (next x) contents b) (value q.0 p.0 q.1 p.1) q.2)
  stage_yes contents a b (inl p) (inr e) = absurd (apart p.0 b p.1 e)
  stage_yes contents a b (inr d) (inl q) = absurd (apart q.0 a q.1 d)
  stage_yes contents a b (inr d) (inr e) = inl (answer a b d e)

  pub gives_yes : HasOneRefusal (value_in P E next)
  gives_yes = record { one = stage_yes }
