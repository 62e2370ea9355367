-- Answers, as plans: which files a call reads, in which order and within which limits, and which answers it may give at
-- the end. The first stop decides.
use Rattle.std.specs.Prelude.{◌≡◌, ◌⊎◌, ◌<◌, ◌≤◌, ℕ, List, [], ◌∷◌, length, Option, Some, None, IfSome, Result, Ok, Err}
use Rattle.wb_io.specs.Files.{HasBytes, HasMore}
use Rattle.cli_plans.specs.Known.{Known}
use Rattle.cli_plans.specs.Lines.{read_fault_line, too_long_line}

-- a status, a text on standard output and a text on standard error
pub record Answer : Type 0 where
  pub status : ℕ
  pub out : List ℕ
  pub err : List ℕ

-- a refusal, with nothing on standard output
abbrev pub refused : ℕ → List ℕ → Answer
refused status err = record { status = status; out = []; err = err }

-- a text on standard output, with nothing on standard error
abbrev pub done : ℕ → List ℕ → Answer
done status text = record { status = status; out = text; err = [] }

pub data Plan : Type 1 where
  -- one of these answers
  answer_in : (Answer → Type 0) → Plan
  -- reads a file of at most this number of bytes, and goes on with its bytes
  reads : List ℕ → ℕ → (List ℕ → Plan) → Plan
  -- a stage: goes on with one of these values, or ends early with one of these answers, of any status
  value_in : {A : Type 0} → (A → Type 0) → (Answer → Type 0) → (A → Plan) → Plan

-- the one answer
abbrev pub answers : Answer → Plan
answers a = answer_in (λ b. b ≡ a)

-- the stage that yields a value, or ends with the answer
unfoldable pub value_from : {A : Type 0} → Result A Answer → (A → Plan) → Plan
value_from stage next = value_in (λ x. stage ≡ Ok x) (λ a. stage ≡ Err a) next

-- the answers that are allowed for the contents of the files, in the order of the reads: the bytes of each file, or
-- that it has none
abbrev pub IsAnswerOf : Plan → List (Option (List ℕ)) → Answer → Type 0
IsAnswerOf (answer_in P) contents a = P a
IsAnswerOf (reads name limit next) [] a = a ≡ refused 3 (read_fault_line name)
IsAnswerOf (reads name limit next) (None ∷ rest) a = a ≡ refused 3 (read_fault_line name)
IsAnswerOf (reads name limit next) (Some bytes ∷ rest) a =
    ((limit < length bytes) × (a ≡ refused 7 (too_long_line name limit))) ⊎ ((length bytes ≤ limit) × IsAnswerOf (next bytes) rest a)
IsAnswerOf (value_in {A} P E next) contents a = ((x : A) × P x × IsAnswerOf (next x) contents a) ⊎ E a

-- the plan reaches a file: it reads the file, or tries to, before the first stop
abbrev pub ComesTo : Plan → List (Option (List ℕ)) → List ℕ → Type 0
ComesTo (answer_in P) contents file = ⊥
ComesTo (reads name limit next) [] file = file ≡ name
ComesTo (reads name limit next) (None ∷ rest) file = file ≡ name
ComesTo (reads name limit next) (Some bytes ∷ rest) file = (file ≡ name) ⊎ ((length bytes ≤ limit) × ComesTo (next bytes) rest file)
ComesTo (value_in {A} P E next) contents file = (x : A) × P x × ComesTo (next x) contents file

-- each file that the plan reaches is known to have these contents
abbrev pub HasContents : (List ℕ → Known) → Plan → List (Option (List ℕ)) → Type 0
HasContents told (answer_in P) contents = Unit {0}
HasContents told (reads name limit next) [] = ⊥
HasContents told (reads name limit next) (None ∷ rest) = told name ≡ Some None
HasContents told (reads name limit next) (Some bytes ∷ rest) = (told name ≡ Some (Some bytes)) × (length bytes ≤ limit → HasContents told (next bytes) rest)
HasContents told (value_in {A} P E next) contents = (x : A) → P x → HasContents told (next x) contents

-- each file that the plan reaches has bytes, within its limit, and all answers have status 0 or 1
abbrev pub IsFaultless : Plan → List (Option (List ℕ)) → Type 0
IsFaultless (answer_in P) contents = (a : Answer) → P a → a.status ≤ 1
IsFaultless (reads name limit next) [] = ⊥
IsFaultless (reads name limit next) (None ∷ rest) = ⊥
IsFaultless (reads name limit next) (Some bytes ∷ rest) = (length bytes ≤ limit) × IsFaultless (next bytes) rest
IsFaultless (value_in {A} P E next) contents = ((x : A) → P x → IsFaultless (next x) contents) × ((a : Answer) → E a → a.status ≤ 1)

-- whatever the files contain, there is exactly one answer
pub record IsDetermined (plan : Plan) : Type 0 where
  pub just_one : (contents : List (Option (List ℕ))) → (a : Answer) × IsAnswerOf plan contents a × ((b : Answer) → IsAnswerOf plan contents b → b ≡ a)

-- an answer for some contents that agree with what is known of the files
abbrev pub MayBeAnswer : (List ℕ → Known) → Plan → Answer → Type 0
MayBeAnswer told (answer_in P) a = P a
MayBeAnswer told (reads name limit next) a =
    (IfSome (told name) (λ known. known ≡ None) × (a ≡ refused 3 (read_fault_line name)))
    ⊎ ((HasMore (told name) limit × (a ≡ refused 7 (too_long_line name limit)))
    ⊎ ((bytes : List ℕ) × HasBytes (told name) bytes × (length bytes ≤ limit) × MayBeAnswer told (next bytes) a))
MayBeAnswer told (value_in {A} P E next) a = ((x : A) × P x × MayBeAnswer told (next x) a) ⊎ E a

-- the plan reaches a file, for some contents that agree with what is known of the files
abbrev pub MayComeTo : (List ℕ → Known) → Plan → List ℕ → Type 0
MayComeTo told (answer_in P) file = ⊥
MayComeTo told (reads name limit next) file =
    (file ≡ name) ⊎ ((bytes : List ℕ) × HasBytes (told name) bytes × (length bytes ≤ limit) × MayComeTo told (next bytes) file)
MayComeTo told (value_in {A} P E next) file = (x : A) × P x × MayComeTo told (next x) file
