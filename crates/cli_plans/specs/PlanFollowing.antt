-- What a call did to files and streams, compared with a plan.
use Rattle.std.specs.Prelude.{◌≡◌, ◌⊎◌, ℕ, ◌≤◌, List, [], length, Option, Some, IfSome, Result, Ok, Err}
use Rattle.wb_io.specs.Causes.{counted}
use Rattle.wb_io.specs.Files.{HasBytes, HasMore}
use Rattle.wb_io.specs.Sinks.{Appended, AppendedPrefix}
use Rattle.cli_plans.specs.declared.stop_reason.StopReason as code
use Rattle.cli_plans.specs.declared.stop_reason.StopReason.TheVariants.{Write, Refused, Memory, Read, TooLong}
use Rattle.cli_plans.specs.Known.{Known}
use Rattle.cli_plans.specs.Plan.{Answer, Plan, value_in, answer_in, reads}
use Rattle.cli_plans.specs.Stops.{answer_at, status_of}

-- the files: what is known of their contents, and for each name a count of failed reads
pub record FilesState : Type 0 where
  pub told : List ℕ → Known
  pub faults : List ℕ → ℕ

-- standard output or standard error: what was written to it, and the number of failed writes
pub record SinkState : Type 0 where
  pub taken : Option (List ℕ)
  pub faults : ℕ

-- the files, standard output and standard error before and after a call
pub record CallStates : Type 0 where
  pub files_before : FilesState
  pub files_after : FilesState
  pub out_before : SinkState
  pub out_after : SinkState
  pub err_before : SinkState
  pub err_after : SinkState

abbrev pub files_state : (List ℕ → Known) → (List ℕ → ℕ) → FilesState
files_state told faults = record { told = told; faults = faults }

abbrev pub sink_state : Option (List ℕ) → ℕ → SinkState
sink_state taken faults = record { taken = taken; faults = faults }

-- no read of any file failed
abbrev pub NoReadFailed : FilesState → FilesState → Type 0
NoReadFailed before after = (name : List ℕ) → after.faults name ≡ before.faults name

-- the files at a later time, when no further read has failed
pub record IsLater (before after : FilesState) : Type 0 where
  pub stays : (name : List ℕ) → IfSome (before.told name) (λ known. after.told name ≡ Some known)
  pub counts : NoReadFailed before after

-- why a read of a file stopped: it failed; or no read failed, and the file has more bytes than the limit, or memory was
-- out
abbrev pub StopsAtRead : List ℕ → ℕ → FilesState → FilesState → code.StopReason → Type 0
StopsAtRead name limit before after Memory = NoReadFailed before after
StopsAtRead name limit before after (Read other) = (other.now ≡ name) × (after.faults name ≡ counted (before.faults name))
StopsAtRead name limit before after (TooLong other n) = (other.now ≡ name) × (n ≡ limit) × HasMore (before.told name) limit × NoReadFailed before after
StopsAtRead name limit before after _ = ⊥

-- a stop is a refusal that is one of the answers, or out of memory
abbrev pub RefusesWith : (Answer → Type 0) → code.StopReason → Type 0
RefusesWith E stop = (stop ≡ Memory) ⊎ ((status_of stop ≡ 5) × E (answer_at stop))

-- a stage gives one of the values, or a refusal that is one of the answers, or out of memory
abbrev pub IsStageResultIn : {A B : Type 0} → (A → Type 0) → (Answer → Type 0) → (B → A) → Result B code.StopReason → Type 0
IsStageResultIn P E view (Ok x) = P (view x)
IsStageResultIn P E view (Err stop) = RefusesWith E stop

-- a stage yields what its definition does: the value, or the refusal; or memory is out
abbrev pub IsStageResult : {A B : Type 0} → (B → A) → Result A Answer → Result B code.StopReason → Type 0
IsStageResult view defined (Ok x) = defined ≡ Ok (view x)
IsStageResult view defined (Err stop) = RefusesWith (λ a. defined ≡ Err a) stop

-- these bytes of a file were read, within a limit; they agree with what is known of the file, and no read failed
pub record IsRead (name : List ℕ) (limit : ℕ) (before after : FilesState) (bytes : List ℕ) : Type 0 where
  pub short : length bytes ≤ limit
  pub has : HasBytes (before.told name) bytes
  pub later : IsLater before after

-- a stage that reads a file gives one of the values by its bytes, or a refusal by them; or it stops at the read
abbrev pub IsReadResultIn : {A B : Type 0} → List ℕ → ℕ → (List ℕ → A → Type 0) → (List ℕ → Answer → Type 0) → (B → A) → FilesState → FilesState → Result B code.StopReason → Type 0
IsReadResultIn name limit P E view before after (Ok x) = (bytes : List ℕ) × IsRead name limit before after bytes × P bytes (view x)
IsReadResultIn name limit P E view before after (Err stop) =
    StopsAtRead name limit before after stop ⊎ ((bytes : List ℕ) × IsRead name limit before after bytes × RefusesWith (E bytes) stop)

-- one of the answers was written whole, and there is nothing for standard error
pub record WroteWhole (P : Answer → Type 0) (before after : SinkState) (status : ℕ) : Type 0 where
  pub answer : Answer
  pub allowed : P answer
  pub status_is : status ≡ answer.status
  pub low : status ≤ 1
  pub quiet : answer.err ≡ []
  pub went : Appended before.taken after.taken answer.out
  pub no_fault : after.faults ≡ before.faults

-- a write failed, and a proper prefix of one of the answers was written
pub record WrotePart (P : Answer → Type 0) (before after : SinkState) : Type 0 where
  pub answer : Answer
  pub allowed : P answer
  pub went : AppendedPrefix before.taken after.taken answer.out
  pub one_fault : after.faults ≡ counted before.faults

-- one of the answers was given: written on standard output, or as a refusal; at a refusal, or if memory runs out,
-- nothing was written
abbrev pub WritesAnswer : (Answer → Type 0) → SinkState → SinkState → Result ℕ code.StopReason → Type 0
WritesAnswer P before after (Ok status) = WroteWhole P before after status
WritesAnswer P before after (Err Write) = WrotePart P before after
WritesAnswer P before after (Err Memory) = after ≡ before
WritesAnswer P before after (Err (Refused name why)) = P (answer_at (Refused name why)) × (after ≡ before)
WritesAnswer P before after (Err stop) = ⊥

-- a read stopped, and nothing was written
abbrev pub StopsReading : List ℕ → ℕ → FilesState → FilesState → SinkState → SinkState → Result ℕ code.StopReason → Type 0
StopsReading name limit files_before files_after before after (Ok status) = ⊥
StopsReading name limit files_before files_after before after (Err stop) =
    StopsAtRead name limit files_before files_after stop × (after ≡ before)

-- a call followed a plan, for some contents that agree with what is known of the files; no read failed except one that
-- ended the call
unfoldable pub FollowsPlan : Plan → FilesState → FilesState → SinkState → SinkState → Result ℕ code.StopReason → Type 0
FollowsPlan (answer_in P) files_before files_after before after result = WritesAnswer P before after result × NoReadFailed files_before files_after
FollowsPlan (reads name limit next) files_before files_after before after result =
    StopsReading name limit files_before files_after before after result
    ⊎ ((bytes : List ℕ) × (length bytes ≤ limit) × HasBytes (files_before.told name) bytes × FollowsPlan (next bytes) files_before files_after before after result)
FollowsPlan (value_in {A} P E next) files_before files_after before after result =
    ((x : A) × P x × FollowsPlan (next x) files_before files_after before after result) ⊎ (WritesAnswer E before after result × NoReadFailed files_before files_after)

-- ---- for any files and any sinks, by what is known of the files, what was written, and the counts of failures

-- a relation of the files before and after
abbrev pub OnFiles : {F : Type 0} {A : Type 1} → (F → List ℕ → Known) → (F → List ℕ → ℕ) → (FilesState → FilesState → A) → F → F → A
OnFiles told faults R before after = R (files_state (told before) (faults before)) (files_state (told after) (faults after))

-- a relation of a sink before and after
abbrev pub OnSink : {O : Type 0} {A : Type 1} → (O → Option (List ℕ)) → (O → ℕ) → (SinkState → SinkState → A) → O → O → A
OnSink taken faults R before after = R (sink_state (taken before) (faults before)) (sink_state (taken after) (faults after))

-- a relation of the files and a sink before and after
abbrev pub OnFilesAndSink : {F O : Type 0} {A : Type 1} → (F → List ℕ → Known) → (F → List ℕ → ℕ) → (O → Option (List ℕ)) → (O → ℕ) →
    (FilesState → FilesState → SinkState → SinkState → A) → F → F → O → O → A
OnFilesAndSink told reads_failed taken faults R files_before files_after = OnSink taken faults (OnFiles told reads_failed R files_before files_after)

-- a relation of the files, standard output and standard error before and after
abbrev pub OnCall : {F O E : Type 0} {A : Type 1} → (F → List ℕ → Known) → (F → List ℕ → ℕ) → (O → Option (List ℕ)) → (O → ℕ) →
    (E → Option (List ℕ)) → (E → ℕ) → (FilesState → FilesState → SinkState → SinkState → SinkState → SinkState → A) → F → F → O → O → E → E → A
OnCall told reads_failed taken faults err_taken err_faults R files_before files_after out_before out_after =
    OnSink err_taken err_faults (OnFilesAndSink told reads_failed taken faults R files_before files_after out_before out_after)

abbrev pub WritesAnswerOn : {O : Type 0} → (O → Option (List ℕ)) → (O → ℕ) → (Answer → Type 0) → O → O → Result ℕ code.StopReason → Type 0
WritesAnswerOn taken faults P before after result = OnSink taken faults (WritesAnswer P) before after result

abbrev pub FollowsPlanOver : {F O : Type 0} → (F → List ℕ → Known) → (F → List ℕ → ℕ) → (O → Option (List ℕ)) → (O → ℕ) →
    Plan → F → F → O → O → Result ℕ code.StopReason → Type 0
FollowsPlanOver told reads_failed taken faults plan files_before files_after before after result =
    OnFilesAndSink told reads_failed taken faults (FollowsPlan plan) files_before files_after before after result
