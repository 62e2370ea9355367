-- The clauses of the contract of a whole call, from what the code did: once for all commands.
use Rattle.std.proofs.Common.{◌≡◌, ◌≢◌, ◌⊎◌, ℕ, ◌≤◌, List, [], refl, sym, ap, subst, inl, inr, Option, Some, None, Result, Ok, Err, lit≤, arith, ◌∙◌}
use Rattle.wb_io.specs.Causes.{counted}
use Rattle.wb_io.specs.Sinks.{Appended}
use Rattle.wb_io.proofs.Writes.{took_nothing}
use Rattle.cli_plans.specs.declared.stop_reason.StopReason as code
use Rattle.cli_plans.specs.declared.stop_reason.StopReason.TheVariants.{Usage, Read, Write, Refused, Memory, TooLong}
use Rattle.y86_cli.specs.Answers.{plan_of}
use Rattle.cli_plans.specs.CallOutcome.{IsPermitted, CallOutcome}
use Rattle.cli_plans.specs.PlanFollowing.{FilesState, NoReadFailed, SinkState, StopsAtRead, StopsReading, FollowsPlan}
use Rattle.y86_words.specs.Forms.{Command}
use Rattle.cli_plans.specs.Lines.{memory_line, read_fault_line, usage_line}
use Rattle.cli_plans.specs.Plan.{Answer, Plan, answer_in, reads, value_in, HasContents, IsFaultless, refused}
use Rattle.y86_cli.specs.CallContract.{CommandOutcome, ReadFailed, CallContract, DeliversOnBoth}
use Rattle.cli_plans.specs.Calls.{WroteError}
use Rattle.cli_plans.specs.Stops.{line_of, read_name, status_of}
use Rattle.cli_plans.proofs.Came.{came, faultless_low}

-- ---- stops alone

stop_high : (stop : code.StopReason) → 2 ≤ status_of stop
stop_high Usage = lit≤ tt
stop_high (Read name) = lit≤ tt
stop_high Write = lit≤ tt
stop_high (Refused name why) = lit≤ tt
stop_high Memory = lit≤ tt
stop_high (TooLong name limit) = lit≤ tt

stop_low : (stop : code.StopReason) → status_of stop ≤ 7
stop_low Usage = lit≤ tt
stop_low (Read name) = lit≤ tt
stop_low Write = lit≤ tt
stop_low (Refused name why) = lit≤ tt
stop_low Memory = lit≤ tt
stop_low (TooLong name limit) = lit≤ tt

named_read : (stop : code.StopReason) (name : List ℕ) → read_name stop ≡ Some name → (status_of stop ≡ 3) × (line_of stop ≡ read_fault_line name)
named_read Usage name e = absurd (cc)
named_read (Read other) name e = let same : other.now ≡ name = cc in (refl, ap read_fault_line same)
named_read Write name e = absurd (cc)
named_read (Refused other why) name e = absurd (cc)
named_read Memory name e = absurd (cc)
named_read (TooLong other limit) name e = absurd (cc)

line_of_memory : (stop : code.StopReason) → status_of stop ≡ 6 → line_of stop ≡ memory_line
line_of_memory Usage e = absurd (cc)
line_of_memory (Read name) e = absurd (cc)
line_of_memory Write e = absurd (cc)
line_of_memory (Refused name why) e = absurd (cc)
line_of_memory Memory e = refl
line_of_memory (TooLong name limit) e = absurd (cc)

-- ---- in a call that doesn't end with a failed read, no read failed

abbrev EndsElse : Result ℕ code.StopReason → Type 0
EndsElse (Ok status) = Unit {0}
EndsElse (Err stop) = status_of stop ≢ 3

stop_none : (name : List ℕ) (limit : ℕ) (files_before files_after : FilesState) (stop : code.StopReason) → StopsAtRead name limit files_before files_after stop →
    status_of stop ≢ 3 → NoReadFailed files_before files_after
stop_none name limit files_before files_after Usage s other = absurd s
stop_none name limit files_before files_after (Read file) s other = absurd (other refl)
stop_none name limit files_before files_after Write s other = absurd s
stop_none name limit files_before files_after (Refused file why) s other = absurd s
stop_none name limit files_before files_after Memory s other = s
stop_none name limit files_before files_after (TooLong file n) s other = s.3

reading_none : (name : List ℕ) (limit : ℕ) (files_before files_after : FilesState) (before after : SinkState) (result : Result ℕ code.StopReason) →
    StopsReading name limit files_before files_after before after result → EndsElse result → NoReadFailed files_before files_after
reading_none name limit files_before files_after before after (Ok status) s other = absurd s
reading_none name limit files_before files_after before after (Err stop) s other = stop_none name limit files_before files_after stop s.0 other

none_failed : (plan : Plan) (files_before files_after : FilesState) (before after : SinkState) (result : Result ℕ code.StopReason) →
    FollowsPlan plan files_before files_after before after result → EndsElse result → NoReadFailed files_before files_after
unfolding FollowsPlan
none_failed (answer_in P) files_before files_after before after result d other = d.1
none_failed (reads name limit next) files_before files_after before after result (inl s) other =
    reading_none name limit files_before files_after before after result s other
none_failed (reads name limit next) files_before files_after before after result (inr more) other =
    none_failed (next more.0) files_before files_after before after result more.3 other
none_failed (value_in P E next) files_before files_after before after result (inl more) other =
    none_failed (next more.0) files_before files_after before after result more.2 other
none_failed (value_in P E next) files_before files_after before after result (inr s) other = s.1

-- ---- texts

told_line : (before after : SinkState) (text other : List ℕ) → text ≡ other → WroteError before after text → WroteError before after other
told_line before after text other e told = let P : List ℕ → Type 0 = λ t. WroteError before after t in subst P e told

-- standard error that nothing was written to
told_quiet : (err : SinkState) (text : List ℕ) → text ≡ [] → WroteError err err text
told_quiet err text e =
    let P : List ℕ → Type 0 = λ t. WroteError err err t in
    subst P (sym e) (inl (took_nothing err.taken, refl))

-- nothing was written
took_same : (before after : SinkState) → after ≡ before → Appended before.taken after.taken []
took_same before after same = let P : SinkState → Type 0 = λ x. Appended before.taken x.taken [] in subst P (sym same) (took_nothing before.taken)

-- ---- a command that ended with a stop, by the outcome of its plan

stop_answer : (plan : Plan) (files_before files_after : FilesState) (before after err_before err_after : SinkState) (stop : code.StopReason) →
    CallOutcome plan files_before files_after before after (Err stop) → WroteError err_before err_after (line_of stop) → status_of stop ≢ 3 → status_of stop ≢ 6 →
    (a : Answer) × IsPermitted plan files_before.told a × DeliversOnBoth a before after err_before err_after (status_of stop)
stop_answer plan files_before files_after before after err_before err_after stop (inl (inl memory, same)) told three six = absurd (six memory)
stop_answer plan files_before files_after before after err_before err_after stop (inl (inr read, same)) told three six = absurd (three (named_read stop read.0 read.1).0)
stop_answer plan files_before files_after before after err_before err_after stop (inr (a, allowed, inl part)) told three six =
    (a, allowed, record { status_is = λ other. absurd (other part.0); out = λ other. absurd (other part.0); part = λ four. part.1; err = λ other. absurd (other part.0) })
stop_answer plan files_before files_after before after err_before err_after stop (inr (a, allowed, inr whole)) told three six = (
  a,
  allowed,
  record {
    status_is = λ other. ap (λ x. x.status) (sym whole.1);
    out = λ other. let P : List ℕ → Type 0 = λ t. Appended before.taken after.taken t in subst P (ap (λ x. x.out) (sym whole.1)) (took_same before after whole.2);
    part = λ four. absurd (omega (arith, whole.0, four));
    err = λ other. told_line err_before err_after (line_of stop) a.err (ap (λ x. x.err) (sym whole.1)) told;
  },
)

stop_not_usage : (plan : Plan) (files_before files_after : FilesState) (before after : SinkState) (stop : code.StopReason) →
    CallOutcome plan files_before files_after before after (Err stop) → status_of stop ≡ 2 → ⊥
stop_not_usage plan files_before files_after before after stop (inl (inl memory, same)) two = omega (arith, memory, two)
stop_not_usage plan files_before files_after before after stop (inl (inr read, same)) two = omega (arith, (named_read stop read.0 read.1).0, two)
stop_not_usage plan files_before files_after before after stop (inr (a, allowed, inl part)) two = omega (arith, part.0, two)
stop_not_usage plan files_before files_after before after stop (inr (a, allowed, inr whole)) two = omega (arith, whole.0, two)

stop_read_failed : (plan : Plan) (files_before files_after : FilesState) (before after err_before err_after : SinkState) (stop : code.StopReason) →
    CallOutcome plan files_before files_after before after (Err stop) → WroteError err_before err_after (line_of stop) → status_of stop ≡ 3 →
    ReadFailed plan files_before files_after err_before err_after
stop_read_failed plan files_before files_after before after err_before err_after stop (inl (inl memory, same)) told three = absurd (omega (arith, memory, three))
stop_read_failed plan files_before files_after before after err_before err_after stop (inl (inr (name, read, fault, reached), same)) told three =
    record { name = name; reached = reached; failed = fault; line = told_line err_before err_after (line_of stop) (read_fault_line name) (named_read stop name read).1 told }
stop_read_failed plan files_before files_after before after err_before err_after stop (inr (a, allowed, inl part)) told three = absurd (omega (arith, part.0, three))
stop_read_failed plan files_before files_after before after err_before err_after stop (inr (a, allowed, inr whole)) told three = absurd (omega (arith, whole.0, three))

stop_write_failed : (plan : Plan) (files_before files_after : FilesState) (before after : SinkState) (stop : code.StopReason) →
    CallOutcome plan files_before files_after before after (Err stop) → status_of stop ≡ 4 → after.faults ≡ counted before.faults
stop_write_failed plan files_before files_after before after stop (inl (inl memory, same)) four = absurd (omega (arith, memory, four))
stop_write_failed plan files_before files_after before after stop (inl (inr read, same)) four = absurd (omega (arith, (named_read stop read.0 read.1).0, four))
stop_write_failed plan files_before files_after before after stop (inr (a, allowed, inl part)) four = part.2
stop_write_failed plan files_before files_after before after stop (inr (a, allowed, inr whole)) four = absurd (omega (arith, whole.0, four))

stop_nothing : (plan : Plan) (files_before files_after : FilesState) (before after : SinkState) (stop : code.StopReason) →
    CallOutcome plan files_before files_after before after (Err stop) → status_of stop ≢ 4 → after ≡ before
stop_nothing plan files_before files_after before after stop (inl lost) other = lost.1
stop_nothing plan files_before files_after before after stop (inr (a, allowed, inl part)) other = absurd (other part.0)
stop_nothing plan files_before files_after before after stop (inr (a, allowed, inr whole)) other = whole.2

stop_complete : (plan : Plan) (files_before files_after : FilesState) (before after : SinkState) (stop : code.StopReason) →
    CallOutcome plan files_before files_after before after (Err stop) → (contents : List (Option (List ℕ))) → HasContents files_before.told plan contents → IsFaultless plan contents →
    status_of stop ≢ 3 → status_of stop ≢ 4 → status_of stop ≡ 6
stop_complete plan files_before files_after before after stop (inl (inl memory, same)) contents tells faultless three four = memory
stop_complete plan files_before files_after before after stop (inl (inr (name, read, fault, reached), same)) contents tells faultless three four =
    absurd (three (named_read stop name read).0)
stop_complete plan files_before files_after before after stop (inr (a, allowed, inl part)) contents tells faultless three four = absurd (four part.0)
stop_complete plan files_before files_after before after stop (inr (a, allowed, inr whole)) contents tells faultless three four =
    let low : a.status ≤ 1 = faultless_low plan contents a faultless (allowed.by_told contents tells) in
    let same : a.status ≡ status_of stop = ap (λ x. x.status) whole.1 in
    absurd (omega (arith, stop_high stop))

low_or_four : {status : ℕ} {P : Type 0} → 2 ≤ status → (status ≡ 4 → P) → (status ≤ 1) ⊎ (status ≡ 4) → P
low_or_four high p (inl low) = absurd (omega (arith, high, low))
low_or_four high p (inr four) = p four

command_stopped : (command : Command) (files_before files_after : FilesState) (before after err_before err_after : SinkState) (stop : code.StopReason) →
    FollowsPlan (plan_of command) files_before files_after before after (Err stop) → WroteError err_before err_after (line_of stop) → (status_of stop ≡ 4 → err_after ≡ err_before) →
    CallContract (Some command) files_before files_after before after err_before err_after (status_of stop)
command_stopped command files_before files_after before after err_before err_after stop d told silent =
    let c : CallOutcome (plan_of command) files_before files_after before after (Err stop) = came (plan_of command) files_before files_after before after (Err stop) d in
    record {
      at_most_seven = stop_low stop;
      usage = λ two. absurd (stop_not_usage (plan_of command) files_before files_after before after stop c two);
      answer = stop_answer (plan_of command) files_before files_after before after err_before err_after stop c told;
      read_failed = stop_read_failed (plan_of command) files_before files_after before after err_before err_after stop c told;
      no_read_failed = none_failed (plan_of command) files_before files_after before after (Err stop) d;
      write_failed = stop_write_failed (plan_of command) files_before files_after before after stop c;
      no_write_failed = λ other. ap (λ x. x.faults) (stop_nothing (plan_of command) files_before files_after before after stop c other);
      nothing_out = λ _ _ other. stop_nothing (plan_of command) files_before files_after before after stop c other;
      err_memory = λ six. told_line err_before err_after _ _ (line_of_memory stop six) told;
      nothing_err = low_or_four (stop_high stop) silent;
      complete = λ contents tells faultless three four. inl (stop_complete (plan_of command) files_before files_after before after stop c contents tells faultless three four);
    }

usage_ran : (files_before files_after : FilesState) (before after err_before err_after : SinkState) →
    files_after ≡ files_before → after ≡ before → WroteError err_before err_after usage_line → CallContract None files_before files_after before after err_before err_after 2
usage_ran files_before files_after before after err_before err_after files same told = record {
  at_most_seven = lit≤ tt;
  usage = λ _. refl;
  answer = λ _ _. (
    refused 2 usage_line,
    record { by_some = refl; by_told = λ contents tells. refl },
    record { status_is = λ _. refl; out = λ _. took_same before after same; part = λ four. absurd (omega (arith, four)); err = λ _. told },
  );
  read_failed = λ three. absurd (omega (arith, three));
  no_read_failed = λ _ name. ap (λ (x : FilesState). x.faults name) files;
  write_failed = λ four. absurd (omega (arith, four));
  no_write_failed = λ _. ap (λ x. x.faults) same;
  nothing_out = λ _ _ _. same;
  err_memory = λ six. absurd (omega (arith, six));
  nothing_err = low_or_four (lit≤ tt) (λ four. absurd (omega (arith, four)));
  complete = λ contents tells faultless three four. inr (faultless (refused 2 usage_line) refl);
}

-- ---- a command that was carried out

done_shows : (plan : Plan) (files_before files_after : FilesState) (before after err : SinkState) (status : ℕ) →
    CallOutcome plan files_before files_after before after (Ok status) →
    (status ≤ 1) × (after.faults ≡ before.faults) × (a : Answer) × IsPermitted plan files_before.told a × DeliversOnBoth a before after err err status
done_shows plan files_before files_after before after err status (inl lost) = absurd lost
done_shows plan files_before files_after before after err status (inr (a, allowed, fits)) =
    (fits.1, fits.4, a, allowed, record { status_is = λ _. fits.0; out = λ _. fits.3; part = λ four. absurd (omega (arith, four, fits.1)); err = λ _. told_quiet err a.err fits.2 })

command_done : (command : Command) (files_before files_after : FilesState) (before after err : SinkState) (status : ℕ) →
    FollowsPlan (plan_of command) files_before files_after before after (Ok status) → CallContract (Some command) files_before files_after before after err err status
command_done command files_before files_after before after err status d =
    let shows = done_shows (plan_of command) files_before files_after before after err status (came (plan_of command) files_before files_after before after (Ok status) d) in
    let low : status ≤ 1 = shows.0 in
    record {
      at_most_seven = omega arith;
      usage = λ two. absurd (omega (arith, two));
      answer = λ _ _. (shows.2, shows.3, shows.4);
      read_failed = λ three. absurd (omega (arith, three));
      no_read_failed = λ _. none_failed (plan_of command) files_before files_after before after (Ok status) d tt;
      write_failed = λ four. absurd (omega (arith, four));
      no_write_failed = λ _. shows.1;
      nothing_out = λ zeroth first _. absurd (not_low status zeroth first low);
      err_memory = λ six. absurd (omega (arith, six));
      nothing_err = λ _. refl;
      complete = λ contents tells faultless three four. inr low;
    }
  where
    not_low : (n : ℕ) → n ≢ 0 → n ≢ 1 → n ≤ 1 → ⊥
    not_low n p q h = omega (arith, p, q)

-- ---- both

pub ran_done : (form : Option Command) (files_before files_after : FilesState) (before after err : SinkState) (status : ℕ) →
    CommandOutcome form files_before files_after before after (Ok status) → CallContract form files_before files_after before after err err status
unfolding CommandOutcome
ran_done None files_before files_after before after err status e = absurd (cc (e.0))
ran_done (Some command) files_before files_after before after err status e = command_done command files_before files_after before after err status e

stopped : (form : Option Command) (files_before files_after : FilesState) (before after err_before err_after : SinkState) (stop : code.StopReason) →
    CommandOutcome form files_before files_after before after (Err stop) → WroteError err_before err_after (line_of stop) → (status_of stop ≡ 4 → err_after ≡ err_before) →
    CallContract form files_before files_after before after err_before err_after (status_of stop)
unfolding CommandOutcome
stopped None files_before files_after before after err_before err_after stop e told silent =
    let usage : stop ≡ Usage = cc (e.0) in
    let P : code.StopReason → Type 0 = λ s. WroteError err_before err_after (line_of s) → CallContract None files_before files_after before after err_before err_after (status_of s) in
    subst P (sym usage) (usage_ran files_before files_after before after err_before err_after e.1 e.2) told
stopped (Some command) files_before files_after before after err_before err_after stop e told silent =
    command_stopped command files_before files_after before after err_before err_after stop e told silent

pub ran_stopped : (form : Option Command) (files_before files_after : FilesState) (before after err_before err_after : SinkState) (stop : code.StopReason) (status : ℕ) →
    CommandOutcome form files_before files_after before after (Err stop) → status ≡ status_of stop → WroteError err_before err_after (line_of stop) →
    (status_of stop ≡ 4 → err_after ≡ err_before) → CallContract form files_before files_after before after err_before err_after status
ran_stopped form files_before files_after before after err_before err_after stop status e s told silent =
    rw s (stopped form files_before files_after before after err_before err_after stop e told silent)

-- the words form no command
pub no_command : (form : Option Command) (files : FilesState) (seen : SinkState) → form ≡ None → CommandOutcome form files files seen seen (Err Usage)
unfolding CommandOutcome
no_command form files seen none = rw none (refl, refl, refl)

pub command_ended : (form : Option Command) (command : Command) (files_before files_after : FilesState) (before after : SinkState) (result : Result ℕ code.StopReason) →
    form ≡ Some command → FollowsPlan (plan_of command) files_before files_after before after result → CommandOutcome form files_before files_after before after result
unfolding CommandOutcome
command_ended form command files_before files_after before after result is d = rw is d

pub usage_where : (form : Option Command) (files_before files_after : FilesState) (before after : SinkState) (stop : code.StopReason) (status : ℕ) →
    CommandOutcome form files_before files_after before after (Err stop) → status ≡ status_of stop → form ≡ None → status ≡ 2
unfolding CommandOutcome
usage_where None files_before files_after before after stop status e s none = let usage : stop ≡ Usage = cc (e.0) in s ∙ ap status_of usage
usage_where (Some command) files_before files_after before after stop status e s none = absurd (cc)

pub usage_done : (form : Option Command) (files_before files_after : FilesState) (before after : SinkState) (status : ℕ) →
    CommandOutcome form files_before files_after before after (Ok status) → form ≡ None → status ≡ 2
unfolding CommandOutcome
usage_done None files_before files_after before after status e none = absurd (cc (e.0))
usage_done (Some command) files_before files_after before after status e none = absurd (cc)

-- out of memory before the words are known
pub memory_ran : (form : Option Command) (files : FilesState) (seen err_before err_after : SinkState) (status : ℕ) → status ≡ 6 → WroteError err_before err_after memory_line →
    CallContract form files files seen seen err_before err_after status
memory_ran form files seen err_before err_after status six told = record {
  at_most_seven = omega (arith, six);
  usage = λ two. absurd (omega (arith, two, six));
  answer = λ three other. absurd (other six);
  read_failed = λ three. absurd (omega (arith, three, six));
  no_read_failed = λ _ _. refl;
  write_failed = λ four. absurd (omega (arith, four, six));
  no_write_failed = λ _. refl;
  nothing_out = λ _ _ _. refl;
  err_memory = λ _. told;
  nothing_err = low_or_four (omega (arith, six)) (λ four. absurd (omega (arith, four, six)));
  complete = λ contents tells faultless three four. inl six;
}

unread_ran : (files : FilesState) (seen err_before err_after : SinkState) (status : ℕ) → status ≡ 2 → WroteError err_before err_after usage_line →
    CallContract None files files seen seen err_before err_after status
unread_ran files seen err_before err_after status two told = rw two (usage_ran files files seen seen err_before err_after refl refl told)

-- words that can't be read
pub unread_stopped : (files : FilesState) (seen err_before err_after : SinkState) (stop : code.StopReason) (status : ℕ) → (stop ≡ Memory) ⊎ (stop ≡ Usage) →
    status ≡ status_of stop → WroteError err_before err_after (line_of stop) → CallContract None files files seen seen err_before err_after status
unread_stopped files seen err_before err_after stop status (inl memory) s told =
    memory_ran None files seen err_before err_after status (s ∙ ap status_of memory) (told_line err_before err_after _ _ (ap line_of memory) told)
unread_stopped files seen err_before err_after stop status (inr usage) s told =
    unread_ran files seen err_before err_after status (s ∙ ap status_of usage) (told_line err_before err_after _ _ (ap line_of usage) told)
