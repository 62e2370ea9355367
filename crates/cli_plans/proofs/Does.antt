-- How a call follows its plan, stage after stage.
use Rattle.std.proofs.Common.{◌≡◌, ◌⊎◌, ℕ, ◌≤◌, List, length, refl, ap, ◌∙◌, inl, inr, Some, None, IfSome, Result, Ok, Err}
use Rattle.wb_io.specs.Causes.{counted}
use Rattle.wb_io.specs.Files.{HasBytes, HasMore}
use Rattle.cli_plans.specs.declared.stop_reason.StopReason as code
use Rattle.cli_plans.specs.declared.stop_reason.StopReason.TheVariants.{Usage, Read, Write, Refused, Memory, TooLong}
use Rattle.cli_plans.specs.PlanFollowing.{FilesState, IsStageResultIn, SinkState, IsLater, IsRead, NoReadFailed, IsReadResultIn, RefusesWith, StopsAtRead, StopsReading, WritesAnswer, FollowsPlan}
use Rattle.cli_plans.specs.Known.{Known}
use Rattle.cli_plans.specs.Plan.{Answer, Plan, value_from, answers, value_in, answer_in, reads}
use Rattle.cli_plans.specs.Stops.{answer_at, status_of}

fault_earlier : (first before now : ℕ) → before ≡ first → now ≡ counted before → now ≡ counted first
fault_earlier first before now same fault = fault ∙ ap counted same

has_earlier : (old new : Known) (bytes : List ℕ) → IfSome old (λ known. new ≡ Some known) → HasBytes new bytes → HasBytes old bytes
has_earlier None new bytes stays h = tt
has_earlier (Some known) new bytes stays h = rw stays at h

more_earlier : (old new : Known) (limit : ℕ) → IfSome old (λ known. new ≡ Some known) → HasMore new limit → HasMore old limit
more_earlier None new limit stays h = tt
more_earlier (Some known) new limit stays h = rw stays at h

none_earlier : (first before last : FilesState) → IsLater first before → NoReadFailed before last → NoReadFailed first last
none_earlier first before last later none = λ name. none name ∙ later.counts name

stops_earlier : (name : List ℕ) (limit : ℕ) (first before last : FilesState) (stop : code.StopReason) → IsLater first before →
    StopsAtRead name limit before last stop → StopsAtRead name limit first last stop
stops_earlier name limit first before last Usage later s = s
stops_earlier name limit first before last (Read other) later s = (s.0, fault_earlier _ _ _ (later.counts name) s.1)
stops_earlier name limit first before last Write later s = s
stops_earlier name limit first before last (Refused other why) later s = s
stops_earlier name limit first before last Memory later s = none_earlier first before last later s
stops_earlier name limit first before last (TooLong other n) later s =
    (s.0, s.1, more_earlier _ _ limit (later.stays name) s.2, none_earlier first before last later s.3)

reading_earlier : (name : List ℕ) (limit : ℕ) (first before last : FilesState) (old new : SinkState) (result : Result ℕ code.StopReason) → IsLater first before →
    StopsReading name limit before last old new result → StopsReading name limit first last old new result
reading_earlier name limit first before last old new (Ok status) later s = s
reading_earlier name limit first before last old new (Err stop) later s = (stops_earlier name limit first before last stop later s.0, s.1)

-- what a call did from a later state of the files on, it also did from the earlier one on
Does_earlier : (plan : Plan) (first before last : FilesState) (old new : SinkState) (result : Result ℕ code.StopReason) → IsLater first before →
    FollowsPlan plan before last old new result → FollowsPlan plan first last old new result
unfolding FollowsPlan
Does_earlier (answer_in P) first before last old new result later d = (d.0, none_earlier first before last later d.1)
Does_earlier (reads name limit next) first before last old new result later (inl s) = inl (reading_earlier name limit first before last old new result later s)
Does_earlier (reads name limit next) first before last old new result later (inr more) =
    inr (more.0, more.1, has_earlier _ _ more.0 (later.stays name) more.2, Does_earlier (next more.0) first before last old new result later more.3)
Does_earlier (value_in P E next) first before last old new result later (inl more) = inl (more.0, more.1, Does_earlier (next more.0) first before last old new result later more.2)
Does_earlier (value_in P E next) first before last old new result later (inr said) = inr (said.0, none_earlier first before last later said.1)

-- a read goes on
pub read_goes_on : (name : List ℕ) (limit : ℕ) (next : List ℕ → Plan) (first before last : FilesState) (old new : SinkState) (result : Result ℕ code.StopReason) (bytes : List ℕ) →
    IsLater first before → length bytes ≤ limit → HasBytes (first.told name) bytes →
    FollowsPlan (next bytes) before last old new result → FollowsPlan (reads name limit next) first last old new result
unfolding FollowsPlan
read_goes_on name limit next first before last old new result bytes later short has d =
    inr (bytes, short, has, Does_earlier (next bytes) first before last old new result later d)

-- a read stops
pub read_stops : (name : List ℕ) (limit : ℕ) (next : List ℕ → Plan) (first last : FilesState) (seen : SinkState) (stop : code.StopReason) →
    StopsAtRead name limit first last stop → FollowsPlan (reads name limit next) first last seen seen (Err stop)
unfolding FollowsPlan
read_stops name limit next first last seen stop s = inl (s, refl)

-- the call gives one of the answers
pub said : (P : Answer → Type 0) (files : FilesState) (old new : SinkState) (result : Result ℕ code.StopReason) →
    WritesAnswer P old new result → FollowsPlan (answer_in P) files files old new result
unfolding FollowsPlan
said P files old new result s = (s, λ name. refl)

-- the call gives this answer
pub gives_it : (answered : Answer) (files : FilesState) (old new : SinkState) (result : Result ℕ code.StopReason) →
    WritesAnswer (λ a. a ≡ answered) old new result → FollowsPlan (answers answered) files files old new result
unfolding FollowsPlan
gives_it answered files old new result s = (s, λ name. refl)

-- a stage goes on
pub one_goes_on : {A : Type 0} (P : A → Type 0) (E : Answer → Type 0) (x : A) (next : A → Plan) (first last : FilesState) (old new : SinkState)
    (result : Result ℕ code.StopReason) → P x → FollowsPlan (next x) first last old new result → FollowsPlan (value_in P E next) first last old new result
unfolding FollowsPlan
one_goes_on P E x next first last old new result p d = inl (x, p, d)

-- a stage ends early, and the call gives one of its answers
pub one_ends : {A : Type 0} (P : A → Type 0) (E : Answer → Type 0) (next : A → Plan) (files : FilesState) (old new : SinkState)
    (result : Result ℕ code.StopReason) → WritesAnswer E old new result → FollowsPlan (value_in P E next) files files old new result
unfolding FollowsPlan
one_ends P E next files old new result s = inr (s, λ name. refl)

pub refusal_says : (P : Answer → Type 0) (seen : SinkState) (stop : code.StopReason) → status_of stop ≡ 5 → P (answer_at stop) → WritesAnswer P seen seen (Err stop)
refusal_says P seen Usage five p = absurd (cc (five))
refusal_says P seen (Read name) five p = absurd (cc (five))
refusal_says P seen Write five p = absurd (cc (five))
refusal_says P seen (Refused name why) five p = (p, refl)
refusal_says P seen Memory five p = absurd (cc (five))
refusal_says P seen (TooLong name limit) five p = absurd (cc (five))

-- a stop that refuses with an answer of E also gives an answer of P
pub refused_says : (P E : Answer → Type 0) (seen : SinkState) (stop : code.StopReason) → ((a : Answer) → E a → P a) → RefusesWith E stop → WritesAnswer P seen seen (Err stop)
refused_says P E seen stop f (inl memory) = rw memory refl
refused_says P E seen stop f (inr refused) = refusal_says P seen stop refused.0 (f _ refused.1)

-- a stage refuses
pub one_refuses : {A : Type 0} (P : A → Type 0) (E : Answer → Type 0) (next : A → Plan) (files : FilesState) (seen : SinkState) (stop : code.StopReason) →
    RefusesWith E stop → FollowsPlan (value_in P E next) files files seen seen (Err stop)
unfolding FollowsPlan
one_refuses P E next files seen stop refuses = inr (refused_says E E seen stop (λ a is. is) refuses, λ name. refl)

-- a stage that reads a file
pub stage_read : {A B : Type 0} (name : List ℕ) (limit : ℕ) (P : List ℕ → A → Type 0) (E : List ℕ → Answer → Type 0) (view : B → A) (before value_from : FilesState) (bytes : List ℕ)
    (result : Result B code.StopReason) → IsLater before value_from → length bytes ≤ limit → HasBytes (before.told name) bytes → IsStageResultIn (P bytes) (E bytes) view result →
    IsReadResultIn name limit P E view before value_from result
stage_read name limit P E view before value_from bytes (Ok x) later short has given = (bytes, record { short = short; has = has; later = later }, given)
stage_read name limit P E view before value_from bytes (Err stop) later short has given = inr (bytes, record { short = short; has = has; later = later }, given)

-- it goes on
pub read_stage_goes_on : {A : Type 0} (name : List ℕ) (limit : ℕ) (P : List ℕ → A → Type 0) (E : List ℕ → Answer → Type 0) (x : A) (next : A → Plan)
    (first before last : FilesState) (old new : SinkState) (result : Result ℕ code.StopReason) → ((bytes : List ℕ) × IsRead name limit first before bytes × P bytes x) →
    FollowsPlan (next x) before last old new result → FollowsPlan (reads name limit (λ bytes. value_in (P bytes) (E bytes) next)) first last old new result
read_stage_goes_on name limit P E x next first before last old new result (bytes, read, p) d =
    read_goes_on name limit (λ xs. value_in (P xs) (E xs) next) first before last old new result bytes read.later read.short read.has
    (one_goes_on (P bytes) (E bytes) x next before last old new result p d)

-- it stops
pub read_stage_stops : {A : Type 0} (name : List ℕ) (limit : ℕ) (P : List ℕ → A → Type 0) (E : List ℕ → Answer → Type 0) (next : A → Plan)
    (first last : FilesState) (seen : SinkState) (stop : code.StopReason) →
    StopsAtRead name limit first last stop ⊎ ((bytes : List ℕ) × IsRead name limit first last bytes × RefusesWith (E bytes) stop) →
    FollowsPlan (reads name limit (λ bytes. value_in (P bytes) (E bytes) next)) first last seen seen (Err stop)
read_stage_stops name limit P E next first last seen stop (inl stops) = read_stops name limit (λ xs. value_in (P xs) (E xs) next) first last seen stop stops
read_stage_stops name limit P E next first last seen stop (inr (bytes, read, refuses)) =
    read_goes_on name limit (λ xs. value_in (P xs) (E xs) next) first last last seen seen (Err stop) bytes read.later read.short read.has
    (one_refuses (P bytes) (E bytes) next last seen stop refuses)

-- the same for a stage whose result is a function
pub stage_goes_on : {A : Type 0} (stage : Result A Answer) (x : A) (next : A → Plan) (first last : FilesState) (old new : SinkState) (result : Result ℕ code.StopReason) →
    stage ≡ Ok x → FollowsPlan (next x) first last old new result → FollowsPlan (value_from stage next) first last old new result
unfolding value_from
stage_goes_on stage x next first last old new result is d = one_goes_on (λ x. stage ≡ Ok x) (λ a. stage ≡ Err a) x next first last old new result is d

pub stage_refuses : {A : Type 0} (stage : Result A Answer) (next : A → Plan) (files : FilesState) (seen : SinkState) (stop : code.StopReason) →
    RefusesWith (λ a. stage ≡ Err a) stop → FollowsPlan (value_from stage next) files files seen seen (Err stop)
unfolding value_from
stage_refuses stage next files seen stop g = one_refuses (λ x. stage ≡ Ok x) (λ a. stage ≡ Err a) next files seen stop g

-- an answer that P allows is also one that Q allows
pub says_more : (P Q : Answer → Type 0) (old new : SinkState) (result : Result ℕ code.StopReason) → ((a : Answer) → P a → Q a) → WritesAnswer P old new result → WritesAnswer Q old new result
says_more P Q old new (Ok status) f s =
    record { answer = s.answer; allowed = f s.answer s.allowed; status_is = s.status_is; low = s.low; quiet = s.quiet; went = s.went; no_fault = s.no_fault }
says_more P Q old new (Err Usage) f s = s
says_more P Q old new (Err (Read name)) f s = s
says_more P Q old new (Err Write) f s = record { answer = s.answer; allowed = f s.answer s.allowed; went = s.went; one_fault = s.one_fault }
says_more P Q old new (Err (Refused name why)) f s = (f _ s.0, s.1)
says_more P Q old new (Err Memory) f s = s
says_more P Q old new (Err (TooLong name limit)) f s = s
