-- From what the code did to the outcome of a plan.
use Rattle.std.proofs.Common.{◌≡◌, ℕ, ◌<◌, ◌≤◌, List, [], ◌∷◌, length, refl, ap, subst, inl, inr, Option, Some, None, Result, Ok, Err, lit≤, arith}
use Rattle.wb_io.specs.Files.{HasBytes, HasMore}
use Rattle.cli_plans.specs.declared.stop_reason.StopReason as code
use Rattle.cli_plans.specs.declared.stop_reason.StopReason.TheVariants.{Usage, Read, Write, Refused, Memory, TooLong}
use Rattle.cli_plans.specs.CallOutcome.{IsPermitted, IsReached, IsLostCall, LosesCall, CallOutcome}
use Rattle.cli_plans.specs.PlanFollowing.{FilesState, SinkState, StopsAtRead, StopsReading, WritesAnswer, FollowsPlan}
use Rattle.cli_plans.specs.Lines.{too_long_line}
use Rattle.cli_plans.specs.Known.{Known}
use Rattle.cli_plans.specs.Plan.{Answer, Plan, answer_in, reads, value_in, IsAnswerOf, ComesTo, HasContents, IsFaultless, refused}
use Rattle.cli_plans.specs.Stops.{answer_at}

-- ---- a leaf

leaf_allowed : (P : Answer → Type 0) (told : List ℕ → Known) (a : Answer) → P a → IsPermitted (answer_in P) told a
leaf_allowed P told a p = record { by_some = p; by_told = λ contents tells. p }

leaf_came : (P : Answer → Type 0) (files_before files_after : FilesState) (before after : SinkState) (result : Result ℕ code.StopReason) →
    WritesAnswer P before after result → CallOutcome (answer_in P) files_before files_after before after result
leaf_came P files_before files_after before after (Ok status) s =
    inr (s.answer, leaf_allowed P files_before.told s.answer s.allowed, (s.status_is, s.low, s.quiet, s.went, s.no_fault))
leaf_came P files_before files_after before after (Err Usage) s = absurd s
leaf_came P files_before files_after before after (Err (Read name)) s = absurd s
leaf_came P files_before files_after before after (Err Write) s =
    inr (s.answer, leaf_allowed P files_before.told s.answer s.allowed, inl (refl, s.went, s.one_fault))
leaf_came P files_before files_after before after (Err (Refused name why)) s =
    inr (answer_at (Refused name why), leaf_allowed P files_before.told (answer_at (Refused name why)) s.0, inr (lit≤ tt, refl, s.1))
leaf_came P files_before files_after before after (Err Memory) s = inl (inl refl, s)
leaf_came P files_before files_after before after (Err (TooLong name limit)) s = absurd s

-- ---- the outcome of a part of a plan is an outcome of the plan

lost_more : (part plan : Plan) (files_before files_after : FilesState) (stop : code.StopReason) →
    ((name : List ℕ) → IsReached part files_before.told name → IsReached plan files_before.told name) →
    IsLostCall part files_before files_after stop → IsLostCall plan files_before files_after stop
lost_more part plan files_before files_after stop more (inl memory) = inl memory
lost_more part plan files_before files_after stop more (inr (name, read, fault, reached)) = inr (name, read, fault, more name reached)

loses_more : (part plan : Plan) (files_before files_after : FilesState) (before after : SinkState) (result : Result ℕ code.StopReason) →
    ((name : List ℕ) → IsReached part files_before.told name → IsReached plan files_before.told name) →
    LosesCall part files_before files_after before after result → LosesCall plan files_before files_after before after result
loses_more part plan files_before files_after before after (Ok status) more l = l
loses_more part plan files_before files_after before after (Err stop) more l = (lost_more part plan files_before files_after stop more l.0, l.1)

came_more : (part plan : Plan) (files_before files_after : FilesState) (before after : SinkState) (result : Result ℕ code.StopReason) →
    ((name : List ℕ) → IsReached part files_before.told name → IsReached plan files_before.told name) →
    ((a : Answer) → IsPermitted part files_before.told a → IsPermitted plan files_before.told a) →
    CallOutcome part files_before files_after before after result → CallOutcome plan files_before files_after before after result
came_more part plan files_before files_after before after result reached allowed (inl l) =
    inl (loses_more part plan files_before files_after before after result reached l)
came_more part plan files_before files_after before after result reached allowed (inr (a, is, fits)) = inr (a, allowed a is, fits)

-- ---- a read at which the plan stops

comes_first : (name : List ℕ) (limit : ℕ) (next : List ℕ → Plan) (contents : List (Option (List ℕ))) → ComesTo (reads name limit next) contents name
comes_first name limit next [] = refl
comes_first name limit next (None ∷ rest) = refl
comes_first name limit next (Some bytes ∷ rest) = inl refl

read_reached : (name : List ℕ) (limit : ℕ) (next : List ℕ → Plan) (told : List ℕ → Known) → IsReached (reads name limit next) told name
read_reached name limit next told = record { by_some = inl refl; by_told = λ contents tells. comes_first name limit next contents }

told_long : (known : Known) (bytes : List ℕ) (limit : ℕ) → HasMore known limit → known ≡ Some (Some bytes) → limit < length bytes
told_long known bytes limit more tells = rw tells at more

told_none : (known : Known) (limit : ℕ) → HasMore known limit → known ≡ Some None → ⊥
told_none known limit more tells = rw tells at more

long_allowed : (name : List ℕ) (limit : ℕ) (next : List ℕ → Plan) (told : List ℕ → Known) → HasMore (told name) limit →
    (contents : List (Option (List ℕ))) → HasContents told (reads name limit next) contents → IsAnswerOf (reads name limit next) contents (refused 7 (too_long_line name limit))
long_allowed name limit next told more [] tells = absurd tells
long_allowed name limit next told more (None ∷ rest) tells = absurd (told_none (told name) limit more tells)
long_allowed name limit next told more (Some bytes ∷ rest) tells = inl (told_long (told name) bytes limit more tells.0, refl)

too_long : (name : List ℕ) (limit : ℕ) (next : List ℕ → Plan) (told : List ℕ → Known) → HasMore (told name) limit →
    IsPermitted (reads name limit next) told (refused 7 (too_long_line name limit))
too_long name limit next told more = record { by_some = inr (inl (more, refl)); by_told = long_allowed name limit next told more }

read_stop_came : (name : List ℕ) (limit : ℕ) (next : List ℕ → Plan) (files_before files_after : FilesState) (before after : SinkState) (stop : code.StopReason) →
    StopsAtRead name limit files_before files_after stop → after ≡ before → CallOutcome (reads name limit next) files_before files_after before after (Err stop)
read_stop_came name limit next files_before files_after before after Usage s same = absurd s
read_stop_came name limit next files_before files_after before after (Read other) s same =
    inl (inr (name, ap Some s.0, s.1, read_reached name limit next files_before.told), same)
read_stop_came name limit next files_before files_after before after Write s same = absurd s
read_stop_came name limit next files_before files_after before after (Refused other why) s same = absurd s
read_stop_came name limit next files_before files_after before after Memory s same = inl (inl refl, same)
read_stop_came name limit next files_before files_after before after (TooLong other n) s same =
    inr (refused 7 (too_long_line name limit), too_long name limit next files_before.told s.2, inr (lit≤ tt, rw (s.0, s.1) refl, same))

reading_came : (name : List ℕ) (limit : ℕ) (next : List ℕ → Plan) (files_before files_after : FilesState) (before after : SinkState) (result : Result ℕ code.StopReason) →
    StopsReading name limit files_before files_after before after result → CallOutcome (reads name limit next) files_before files_after before after result
reading_came name limit next files_before files_after before after (Ok status) s = absurd s
reading_came name limit next files_before files_after before after (Err stop) s = read_stop_came name limit next files_before files_after before after stop s.0 s.1

-- ---- a read after which the plan goes on

is_told : (known : Known) (bytes other : List ℕ) → HasBytes known bytes → known ≡ Some (Some other) → bytes ≡ other
is_told known bytes other has tells = let same : Some other ≡ Some bytes = rw tells at has in cc (same)

is_not_told : (known : Known) (bytes : List ℕ) → HasBytes known bytes → known ≡ Some None → ⊥
is_not_told known bytes has tells = let same : None ≡ Some bytes = rw tells at has in absurd (cc (same))

-- what holds after a read holds for the read, for all contents that are known
told_behind : (Q : Plan → List (Option (List ℕ)) → Type 0) (name : List ℕ) (limit : ℕ) (next : List ℕ → Plan) (told : List ℕ → Known) (bytes : List ℕ) →
    ((rest : List (Option (List ℕ))) → Q (next bytes) rest → Q (reads name limit next) (Some bytes ∷ rest)) →
    length bytes ≤ limit → HasBytes (told name) bytes → ((contents : List (Option (List ℕ))) → HasContents told (next bytes) contents → Q (next bytes) contents) →
    (contents : List (Option (List ℕ))) → HasContents told (reads name limit next) contents → Q (reads name limit next) contents
told_behind Q name limit next told bytes put short has behind [] tells = absurd tells
told_behind Q name limit next told bytes put short has behind (None ∷ rest) tells = absurd (is_not_told (told name) bytes has tells)
told_behind Q name limit next told bytes put short has behind (Some other ∷ rest) tells =
    let same : bytes ≡ other = is_told (told name) bytes other has tells.0 in
    let P : List ℕ → Type 0 = λ xs. (length xs ≤ limit → HasContents told (next xs) rest) → Q (reads name limit next) (Some xs ∷ rest) in
    subst P same (λ t. put rest (behind rest (t short))) tells.1

behind_allowed : (name : List ℕ) (limit : ℕ) (next : List ℕ → Plan) (told : List ℕ → Known) (bytes : List ℕ) →
    length bytes ≤ limit → HasBytes (told name) bytes → (a : Answer) → IsPermitted (next bytes) told a → IsPermitted (reads name limit next) told a
behind_allowed name limit next told bytes short has a h = record {
  by_some = inr (inr (bytes, has, short, h.by_some));
  by_told = told_behind (λ plan contents. IsAnswerOf plan contents a) name limit next told bytes (λ rest p. inr (short, p)) short has h.by_told;
}

behind_reached : (name : List ℕ) (limit : ℕ) (next : List ℕ → Plan) (told : List ℕ → Known) (bytes : List ℕ) →
    length bytes ≤ limit → HasBytes (told name) bytes → (file : List ℕ) → IsReached (next bytes) told file → IsReached (reads name limit next) told file
behind_reached name limit next told bytes short has file h = record {
  by_some = inr (bytes, has, short, h.by_some);
  by_told = told_behind (λ plan contents. ComesTo plan contents file) name limit next told bytes (λ rest p. inr (short, p)) short has h.by_told;
}

-- ---- a stage

value_allowed : {A : Type 0} (P : A → Type 0) (E : Answer → Type 0) (next : A → Plan) (told : List ℕ → Known) (x : A) → P x →
    (a : Answer) → IsPermitted (next x) told a → IsPermitted (value_in P E next) told a
value_allowed P E next told x p a h =
    record { by_some = inl (x, p, h.by_some); by_told = λ contents tells. inl (x, p, h.by_told contents (tells x p)) }

value_reached : {A : Type 0} (P : A → Type 0) (E : Answer → Type 0) (next : A → Plan) (told : List ℕ → Known) (x : A) → P x →
    (file : List ℕ) → IsReached (next x) told file → IsReached (value_in P E next) told file
value_reached P E next told x p file h =
    record { by_some = (x, p, h.by_some); by_told = λ contents tells. (x, p, h.by_told contents (tells x p)) }

end_allowed : {A : Type 0} (P : A → Type 0) (E : Answer → Type 0) (next : A → Plan) (told : List ℕ → Known) (a : Answer) →
    IsPermitted (answer_in E) told a → IsPermitted (value_in P E next) told a
end_allowed P E next told a h = record { by_some = inr h.by_some; by_told = λ contents tells. inr h.by_some }

end_reached : {A : Type 0} (P : A → Type 0) (E : Answer → Type 0) (next : A → Plan) (told : List ℕ → Known) (file : List ℕ) →
    IsReached (answer_in E) told file → IsReached (value_in P E next) told file
end_reached P E next told file h = absurd h.by_some

-- the main theorem on plans
pub came : (plan : Plan) (files_before files_after : FilesState) (before after : SinkState) (result : Result ℕ code.StopReason) →
    FollowsPlan plan files_before files_after before after result → CallOutcome plan files_before files_after before after result
unfolding FollowsPlan
came (answer_in P) files_before files_after before after result d = leaf_came P files_before files_after before after result d.0
came (reads name limit next) files_before files_after before after result (inl s) = reading_came name limit next files_before files_after before after result s
came (reads name limit next) files_before files_after before after result (inr more) =
    came_more (next more.0) (reads name limit next) files_before files_after before after result (behind_reached name limit next files_before.told more.0 more.1 more.2)
    (behind_allowed name limit next files_before.told more.0 more.1 more.2) (came (next more.0) files_before files_after before after result more.3)
came (value_in P E next) files_before files_after before after result (inl more) =
    came_more (next more.0) (value_in P E next) files_before files_after before after result (value_reached P E next files_before.told more.0 more.1)
    (value_allowed P E next files_before.told more.0 more.1) (came (next more.0) files_before files_after before after result more.2)
came (value_in P E next) files_before files_after before after result (inr s) =
    came_more (answer_in E) (value_in P E next) files_before files_after before after result (end_reached P E next files_before.told)
    (end_allowed P E next files_before.told) (leaf_came E files_before files_after before after result s.0)

-- a faultless answer has status 0 or 1
pub faultless_low : (plan : Plan) (contents : List (Option (List ℕ))) (a : Answer) → IsFaultless plan contents → IsAnswerOf plan contents a → a.status ≤ 1
faultless_low (answer_in P) contents a f p = f a p
faultless_low (reads name limit next) [] a f p = absurd f
faultless_low (reads name limit next) (None ∷ rest) a f p = absurd f
faultless_low (reads name limit next) (Some bytes ∷ rest) a f (inl long) = absurd (omega (arith, long.0, f.0))
faultless_low (reads name limit next) (Some bytes ∷ rest) a f (inr p) = faultless_low (next bytes) rest a f.1 p.1
faultless_low (value_in P E next) contents a f (inl (x, p, more)) = faultless_low (next x) contents a (f.0 x p) more
faultless_low (value_in P E next) contents a f (inr e) = f.1 a e
