-- Plans: the answer of a determined plan is a function of the contents, and what all answers have in common.
use Rattle.std.proofs.Common.{◌≡◌, ◌⊎◌, ◌↔◌, ◌≢◌, ℕ, ◌<◌, ◌≤◌, Bool, true, false, cond, ◌&&◌, ltb, List, [], ◌∷◌, length, refl, sym, subst, inl, inr, Option, Some, None, Result, Ok, Err, lit≤, arith}
use Rattle.std.proofs.lemmas.Bool.{ltb-true, ltb-false}
use Rattle.wb_io.specs.Sinks.{Appended, AppendedPrefix}
use Rattle.y86_base.specs.declared.parts.Stat.{Stat}
use Rattle.y86_base.specs.declared.parts.Stat.TheVariants.{Bub, Aok, Hlt, Adr, Ins, Pip, Bad}
use Rattle.y86_base.specs.declared.parts.Variant.{Variant}
use Rattle.yas_asm.specs.Assembly.{assembled}
use Rattle.yas_asm.specs.declared.fault.AsmFault.{AsmFault}
use Rattle.yas_asm.specs.declared.listing.Line.{Line}
use Rattle.yo_object.specs.ObjectText.{object_of}
use Rattle.yo_object.specs.declared.object.YoFault.{YoFault}
use Rattle.cli_obligations.specs.AigerTexts.{AigAnswers, AigrunAnswers, aag_reason}
use Rattle.cli_runs.specs.Answers.{big_plan, text_of_listing, yas_plan, yis_plan, checked_plan, hcl_plan, seq_plan, ssim_plan, SeqAnswers, pipe_plan, psim_plan, PipeAnswers, yis_run}
use Rattle.cli_obligations.specs.Answers.{aig_plan, aigrun_plan, certificate_plan, certify_pipe_plan, recheck_plan, sample_plan}
use Rattle.cli_plans.specs.Stages.{image_of_text, run_status}
use Rattle.y86_cli.specs.Answers.{plan_in, plan_of}
use Rattle.cli_checks.specs.Answers.{check_pipe_plan, check_seq_plan}
use Rattle.cli_runs.specs.Big.{BigAnswers}
use Rattle.cli_obligations.specs.Certified.{PipeCertifies, Rechecks}
use Rattle.cli_checks.specs.Checks.{PipeChecks, SeqChecks}
use Rattle.cli_verdicts.specs.Verdicts.{RefusesControl, RefusesPipe}
use Rattle.seq_plus.specs.Datapaths.{rows_of}
use Rattle.cli_plans.specs.Designs.{RefusesDesign}
use Rattle.hcl_types.specs.declared.table.Row.{Row}
use Rattle.hcl_types.specs.declared.term.Term.{Term}
use Rattle.dp_signals.specs.PipeTable.{pipe_rows}
use Rattle.cli_plans.specs.PlanFollowing.{CallStates}
use Rattle.y86_words.specs.Forms.{Command, yas, yis, hcl, ssim, ssimp, psim, check_seq, check_plus, check_pipe, certify_pipe, recheck, sample, aig, aigrun, big}
use Rattle.cli_plans.specs.Lines.{fault_line, assembly_fault_line, object_fault_line, read_fault_line, too_long_line}
use Rattle.cli_plans.specs.Plan.{done, Answer, Plan, answer_in, reads, value_in, answers, value_from, refused, IsAnswerOf, HasContents, IsDetermined}
use Rattle.cli_obligations.specs.Samples.{SampleAnswers}
use Rattle.y86_cli.specs.CallContract.{MeetsContract}
use Rattle.cli_plans.specs.Calls.{WroteError}
use Rattle.hcl_types.specs.declared.table.SequentialDatapath.{SequentialDatapath}
use Rattle.hcl_types.specs.declared.table.SequentialDatapath.TheVariants.{Seq, SeqPlus}

-- ---- determined plans

answers_one : (a : Answer) → IsDetermined (answers a)
answers_one a = record { just_one = λ contents. (a, refl, λ b same. same) }

-- the one answer
abbrev One : Plan → List (Option (List ℕ)) → Type 0
One plan contents = (a : Answer) × IsAnswerOf plan contents a × ((b : Answer) → IsAnswerOf plan contents b → b ≡ a)

read_one : (name : List ℕ) (limit : ℕ) (next : List ℕ → Plan) → ((bytes : List ℕ) → IsDetermined (next bytes)) → (contents : List (Option (List ℕ))) →
    One (reads name limit next) contents
read_one name limit next one [] = (refused 3 (read_fault_line name), refl, λ b same. same)
read_one name limit next one (None ∷ rest) = (refused 3 (read_fault_line name), refl, λ b same. same)
read_one name limit next one (Some bytes ∷ rest) = at (ltb limit (length bytes)) refl
  where
    long : limit < length bytes → (b : Answer) → IsAnswerOf (reads name limit next) (Some bytes ∷ rest) b → b ≡ refused 7 (too_long_line name limit)
    long more b (inl is) = is.1
    long more b (inr is) = absurd (omega (arith, more, is.0))

    short : length bytes ≤ limit → (b : Answer) → IsAnswerOf (reads name limit next) (Some bytes ∷ rest) b → b ≡ ((one bytes).just_one rest).0
    short less b (inl is) = absurd (omega (arith, less, is.0))
    short less b (inr is) = ((one bytes).just_one rest).2 b is.1

    at : (cut : Bool) → ltb limit (length bytes) ≡ cut → One (reads name limit next) (Some bytes ∷ rest)
    at true e = let more = ltb-true limit (length bytes) e in (refused 7 (too_long_line name limit), inl (more, refl), long more)
    at false e = let less = ltb-false limit (length bytes) e in (((one bytes).just_one rest).0, inr (less, ((one bytes).just_one rest).1), short less)

reads_one : (name : List ℕ) (limit : ℕ) (next : List ℕ → Plan) → ((bytes : List ℕ) → IsDetermined (next bytes)) → IsDetermined (reads name limit next)
reads_one name limit next one = record { just_one = read_one name limit next one }

value_one : {A : Type 0} (stage : Result A Answer) (next : A → Plan) → ((x : A) → IsDetermined (next x)) → (contents : List (Option (List ℕ))) →
    One (value_from stage next) contents
unfolding value_from
value_one (Ok x) next one contents = (((one x).just_one contents).0, inl (x, refl, ((one x).just_one contents).1), only)
  where
    only : (b : Answer) → IsAnswerOf (value_from (Ok x) next) contents b → b ≡ ((one x).just_one contents).0
    only b (inl (y, is, allowed)) =
        let same : y ≡ x = cc (is) in
        ((one x).just_one contents).2 b (subst (λ z. IsAnswerOf (next z) contents b) same allowed)
    only b (inr is) = absurd (cc (is))
value_one (Err a) next one contents = (a, inr refl, only)
  where
    only : (b : Answer) → IsAnswerOf (value_from (Err a) next) contents b → b ≡ a
    only b (inl (y, is, allowed)) = absurd (cc (is))
    only b (inr is) = cc (is)

after_one : {A : Type 0} (stage : Result A Answer) (next : A → Plan) → ((x : A) → IsDetermined (next x)) → IsDetermined (value_from stage next)
after_one stage next one = record { just_one = value_one stage next one }

pub yas_one : (source : List ℕ) (size : ℕ) (v : Variant) → IsDetermined (yas_plan source size v)
unfolding yas_plan
yas_one source size v = reads_one _ _ _ (λ bytes. after_one _ _ (λ text. answers_one _))

pub yis_one : (object : List ℕ) (size limit : ℕ) (v : Variant) → IsDetermined (yis_plan object size limit v)
unfolding yis_plan
yis_one object size limit v = reads_one _ _ _ (λ bytes. after_one _ _ (λ image. answers_one _))

-- ---- what the calls of a determined plan answer

pub told_one : (form : Option Command) (one : IsDetermined (plan_in form)) (call : CallStates) (status : ℕ) → MeetsContract form call status →
    (contents : List (Option (List ℕ))) → HasContents call.files_before.told (plan_in form) contents → status ≢ 3 → status ≢ 4 → status ≢ 6 →
    (status ≡ (one.just_one contents).0.status)
    × Appended call.out_before.taken call.out_after.taken (one.just_one contents).0.out
    × WroteError call.err_before call.err_after (one.just_one contents).0.err
told_one form one call status ran contents tells three four six =
    let given = ran.answer three six in
    let same : given.0 ≡ (one.just_one contents).0 = (one.just_one contents).2 given.0 (given.1.by_told contents tells) in
    let P : Answer → Type 0 = λ a. (status ≡ a.status) × Appended call.out_before.taken call.out_after.taken a.out × WroteError call.err_before call.err_after a.err in
    subst P same (given.2.status_is four, given.2.out four, given.2.err four)

pub part_one : (form : Option Command) (one : IsDetermined (plan_in form)) (call : CallStates) (status : ℕ) → MeetsContract form call status →
    (contents : List (Option (List ℕ))) → HasContents call.files_before.told (plan_in form) contents → status ≡ 4 →
    AppendedPrefix call.out_before.taken call.out_after.taken (one.just_one contents).0.out
part_one form one call status ran contents tells four =
    let given = ran.answer (λ three. omega (arith, three, four)) (λ six. omega (arith, six, four)) in
    let same : given.0 ≡ (one.just_one contents).0 = (one.just_one contents).2 given.0 (given.1.by_told contents tells) in
    let P : Answer → Type 0 = λ a. AppendedPrefix call.out_before.taken call.out_after.taken a.out in
    subst P same (given.2.part four)

-- ---- what all answers have in common

-- done, with nothing on standard error; or refused, with nothing on standard output
abbrev IsProper : Answer → Type 0
IsProper a = ((a.status ≤ 1) × (a.err ≡ [])) ⊎ ((3 ≤ a.status) × (a.status ≤ 7) × (a.out ≡ []))

-- all answers of a plan are proper
AllProper : Plan → Type 0
AllProper (answer_in P) = (a : Answer) → P a → IsProper a
AllProper (reads name limit next) = (bytes : List ℕ) → AllProper (next bytes)
AllProper (value_in {A} P E next) = ((x : A) → P x → AllProper (next x)) × ((a : Answer) → E a → IsProper a)

proper_as : (a b : Answer) → IsProper b → a ≡ b → IsProper a
proper_as a b p same = subst IsProper (sym same) p

all_proper : (plan : Plan) → AllProper plan → (contents : List (Option (List ℕ))) (a : Answer) → IsAnswerOf plan contents a → IsProper a
unfolding AllProper
all_proper (answer_in P) all contents a p = all a p
all_proper (reads name limit next) all [] a p = proper_as a (refused 3 (read_fault_line name)) (inr (lit≤ tt, lit≤ tt, refl)) p
all_proper (reads name limit next) all (None ∷ rest) a p = proper_as a (refused 3 (read_fault_line name)) (inr (lit≤ tt, lit≤ tt, refl)) p
all_proper (reads name limit next) all (Some bytes ∷ rest) a (inl long) = proper_as a (refused 7 (too_long_line name limit)) (inr (lit≤ tt, lit≤ tt, refl)) long.1
all_proper (reads name limit next) all (Some bytes ∷ rest) a (inr p) = all_proper (next bytes) (all bytes) rest a p.1
all_proper (value_in P E next) all contents a (inl (x, p, more)) = all_proper (next x) (all.0 x p) contents a more
all_proper (value_in P E next) all contents a (inr e) = all.1 a e

answers_proper : (b : Answer) → IsProper b → AllProper (answers b)
unfolding AllProper
answers_proper b p = λ a same. proper_as a b p same

after_proper : {A : Type 0} (stage : Result A Answer) (next : A → Plan) → ((x : A) → AllProper (next x)) → ((a : Answer) → stage ≡ Err a → IsProper a) →
    AllProper (value_from stage next)
unfolding AllProper value_from
after_proper stage next p q = (λ x is. p x, q)

refused_proper : (line : List ℕ) (a : Answer) → a ≡ refused 5 line → IsProper a
refused_proper line a same = proper_as a (refused 5 line) (inr (lit≤ tt, lit≤ tt, refl)) same

run_status_low : (stat : Stat) → run_status stat ≤ 1
run_status_low Bub = lit≤ tt
run_status_low Aok = lit≤ tt
run_status_low Hlt = lit≤ tt
run_status_low Adr = lit≤ tt
run_status_low Ins = lit≤ tt
run_status_low Pip = lit≤ tt
run_status_low Bad = lit≤ tt

run_proper : (v : Variant) (image : List ℕ) (limit : ℕ) → IsProper (yis_run v image limit)
unfolding yis_run
run_proper v image limit = inl (run_status_low _, refl)

listing_proper : (name source : List ℕ) (listed : Result (List Line) AsmFault) (a : Answer) → text_of_listing name source listed ≡ Err a → IsProper a
listing_proper name source (Ok lines) a is = absurd (cc (is))
listing_proper name source (Err fault) a is = refused_proper (assembly_fault_line name fault) a (cc (is))

image_proper : (name : List ℕ) (loaded : Result (List ℕ) YoFault) (a : Answer) → image_of_text name loaded ≡ Err a → IsProper a
image_proper name (Ok image) a is = absurd (cc (is))
image_proper name (Err fault) a is = refused_proper (object_fault_line name fault) a (cc (is))

seq_proper : (which : SequentialDatapath) (v : Variant) (terms : List Term) (limit : ℕ) (image : List ℕ) → AllProper (answer_in (SeqAnswers which v terms limit image))
unfolding AllProper
seq_proper which v terms limit image = λ a said. proper_as a _ (inl (run_status_low said.0.stat, refl)) said.3

pipe_proper : (v : Variant) (terms : List Term) (limit : ℕ) (trace : Bool) (verdict image : List ℕ) → AllProper (answer_in (PipeAnswers v terms limit trace verdict image))
unfolding AllProper
pipe_proper v terms limit trace verdict image = λ a said. proper_as a _ (inl (run_status_low said.1.end, refl)) said.3

design_proper : (name : List ℕ) (rows : List Row) (text : List ℕ) (a : Answer) → RefusesDesign name rows text a → IsProper a
design_proper name rows text a (inl unread) = refused_proper _ a unread.2
design_proper name rows text a (inr (inl unbound)) = refused_proper _ a unbound.told
design_proper name rows text a (inr (inr unordered)) = refused_proper _ a unordered.told

control_proper : (name : List ℕ) (rows : List Row) (terms : List Term) (a : Answer) → RefusesControl name rows terms a → IsProper a
control_proper name rows terms a (inl mixed) = refused_proper _ a mixed.told
control_proper name rows terms a (inr over) = refused_proper _ a over.told

seq_check_proper : (which : SequentialDatapath) (name : List ℕ) (v : Variant) (terms : List Term) (a : Answer) → SeqChecks which name v terms a → IsProper a
seq_check_proper which name v terms a (inl accepts) = proper_as a _ (inl (lit≤ tt, refl)) accepts.told
seq_check_proper which name v terms a (inr (inl denied)) = proper_as a _ (inl (lit≤ tt, refl)) denied.told
seq_check_proper which name v terms a (inr (inr refuses)) = control_proper name (rows_of which) terms a refuses

ssim_proper : (which : SequentialDatapath) (name object : List ℕ) (size limit : ℕ) (v : Variant) → AllProper (ssim_plan which name object size limit v)
unfolding AllProper seq_plan ssim_plan
ssim_proper which name object size limit v =
    λ text. (λ terms is bytes. after_proper _ _ (λ image. seq_proper which v terms limit image) (image_proper object (object_of bytes size)), design_proper name (rows_of which) text)

check_seq_proper : (which : SequentialDatapath) (file : List ℕ) (v : Variant) → AllProper (check_seq_plan which file v)
unfolding AllProper check_seq_plan
check_seq_proper which file v = λ text. (λ terms is a said. seq_check_proper which file v terms a said, design_proper file (rows_of which) text)

refuses_pipe_proper : (name : List ℕ) (v : Variant) (terms : List Term) (a : Answer) → RefusesPipe name v terms a → IsProper a
refuses_pipe_proper name v terms a (inl denied) = proper_as a _ (inl (lit≤ tt, refl)) denied.told
refuses_pipe_proper name v terms a (inr refuses) = control_proper name pipe_rows terms a refuses

pipe_check_proper : (name : List ℕ) (v : Variant) (terms : List Term) (a : Answer) → PipeChecks name v terms a → IsProper a
pipe_check_proper name v terms a (inl accepts) = proper_as a _ (inl (lit≤ tt, refl)) accepts.told
pipe_check_proper name v terms a (inr refuses) = refuses_pipe_proper name v terms a refuses

object_proper : (verdict : List ℕ) (terms : List Term) (object : List ℕ) (size limit : ℕ) (trace : Bool) (v : Variant) →
    AllProper (pipe_plan verdict terms object size limit trace v)
unfolding AllProper pipe_plan
object_proper verdict terms object size limit trace v =
    λ bytes. after_proper _ _ (λ image. pipe_proper v terms limit trace verdict image) (image_proper object (object_of bytes size))

checked_proper : (name : List ℕ) (terms : List Term) (object : List ℕ) (size limit : ℕ) (trace checked : Bool) (v : Variant) →
    AllProper (checked_plan name terms object size limit trace checked v)
unfolding AllProper checked_plan
checked_proper name terms object size limit trace false v = object_proper [] terms object size limit trace v
checked_proper name terms object size limit trace true v =
    (λ yes accepts. object_proper yes terms object size limit trace v, refuses_pipe_proper name v terms)

sample_proper : (name : List ℕ) (v : Variant) (terms : List Term) (seed count : ℕ) (a : Answer) → SampleAnswers name v terms seed count a → IsProper a
sample_proper name v terms seed count a (inl none) = proper_as a _ (inl (lit≤ tt, refl)) none.told
sample_proper name v terms seed count a (inr (inl found)) = proper_as a _ (inl (lit≤ tt, refl)) found.told
sample_proper name v terms seed count a (inr (inr refuses)) = control_proper name pipe_rows terms a refuses

aig_proper : (name : List ℕ) (v : Variant) (terms : List Term) (a : Answer) → AigAnswers name v terms a → IsProper a
aig_proper name v terms a (inl says_it) = proper_as a (done 0 says_it.text) (inl (lit≤ tt, refl)) says_it.told
aig_proper name v terms a (inr refuses) = control_proper name pipe_rows terms a refuses

aigrun_proper : (name text : List ℕ) (seed : ℕ) (a : Answer) → AigrunAnswers name text seed a → IsProper a
aigrun_proper name text seed a (inl says_it) = proper_as a (done 0 says_it.counts) (inl (lit≤ tt, refl)) says_it.told
aigrun_proper name text seed a (inr refuses) = refused_proper (fault_line name refuses.line (aag_reason refuses.why)) a refuses.told

big_low : (same halted : Bool) → cond (same && halted) 0 1 ≤ 1
big_low true true = lit≤ tt
big_low true false = lit≤ tt
big_low false halted = lit≤ tt

big_proper : (v : Variant) (terms : List Term) (n : ℕ) (a : Answer) → BigAnswers v terms n a → IsProper a
big_proper v terms n a said = proper_as a _ (inl (big_low said.0.same said.0.halted, refl)) said.2

certify_proper : (name : List ℕ) (v : Variant) (terms : List Term) (a : Answer) → PipeCertifies name v terms a → IsProper a
certify_proper name v terms a (inl certifies) = proper_as a _ (inl (lit≤ tt, refl)) certifies.told
certify_proper name v terms a (inr refuses) = refuses_pipe_proper name v terms a refuses

recheck_proper : (cert : List ℕ) (v : Variant) (terms : List Term) (bytes : List ℕ) (a : Answer) → Rechecks cert v terms bytes a → IsProper a
recheck_proper cert v terms bytes a (inl accepts) = proper_as a _ (inl (lit≤ tt, refl)) accepts.told
recheck_proper cert v terms bytes a (inr (inl head)) = refused_proper _ a head.told
recheck_proper cert v terms bytes a (inr (inr refuses)) = refused_proper _ a refuses.told

command_proper : (command : Command) → AllProper (plan_of command)
unfolding AllProper certificate_plan certify_pipe_plan recheck_plan big_plan aig_plan aigrun_plan sample_plan check_pipe_plan yas_plan yis_plan hcl_plan psim_plan
command_proper (yas source size v) =
    λ bytes. after_proper _ _ (λ text. answers_proper _ (inl (lit≤ tt, refl))) (listing_proper source bytes (assembled v bytes size))
command_proper (yis object size limit v) =
    λ bytes. after_proper _ _ (λ image. answers_proper _ (run_proper v image limit)) (image_proper object (object_of bytes size))
command_proper (hcl file) = λ text. (λ tree is. answers_proper _ (inl (lit≤ tt, refl)), λ a refuses. refused_proper _ a refuses.2)
command_proper (ssim name object size limit v) = ssim_proper Seq name object size limit v
command_proper (ssimp name object size limit v) = ssim_proper SeqPlus name object size limit v
command_proper (psim name object size limit trace checked v) =
    λ text. (λ terms is. checked_proper name terms object size limit trace checked v, design_proper name pipe_rows text)
command_proper (check_seq file v) = check_seq_proper Seq file v
command_proper (check_plus file v) = check_seq_proper SeqPlus file v
command_proper (check_pipe file v) = λ text. (λ terms is a said. pipe_check_proper file v terms a said, design_proper file pipe_rows text)
command_proper (certify_pipe file v) = λ text. (λ terms is a said. certify_proper file v terms a said, design_proper file pipe_rows text)
command_proper (recheck file cert v) =
    λ text. (λ terms is. (λ atoms are bytes a said. recheck_proper cert v terms bytes a said, control_proper file pipe_rows terms), design_proper file pipe_rows text)
command_proper (aig file v) = λ text. (λ terms is a said. aig_proper file v terms a said, design_proper file pipe_rows text)
command_proper (aigrun file seed) = λ text a said. aigrun_proper file text seed a said
command_proper (sample file seed count v) = λ text. (λ terms is a said. sample_proper file v terms seed count a said, design_proper file pipe_rows text)
command_proper (big n file v) = λ text. (λ terms is a said. big_proper v terms n a said, design_proper file pipe_rows text)

done_of : (a : Answer) → IsProper a → a.status ≤ 1 → a.err ≡ []
done_of a (inl p) low = p.1
done_of a (inr p) low = absurd (omega (arith, p.0, low))

refused_of : (a : Answer) → IsProper a → 2 ≤ a.status → a.out ≡ []
refused_of a (inl p) high = absurd (omega (arith, p.0, high))
refused_of a (inr p) high = p.2

not_two : (a : Answer) → IsProper a → a.status ≡ 2 → ⊥
not_two a (inl p) two = omega (arith, p.0, two)
not_two a (inr p) two = omega (arith, p.0, two)

seven_of : (a : Answer) → IsProper a → a.status ≤ 7
seven_of a (inl p) = omega (arith, p.0)
seven_of a (inr p) = p.1

proper : (command : Command) (contents : List (Option (List ℕ))) (a : Answer) → IsAnswerOf (plan_in (Some command)) contents a → IsProper a
proper command = all_proper (plan_of command) (command_proper command)

pub done_tells_nothing : (form : Option Command) (contents : List (Option (List ℕ))) (a : Answer) → IsAnswerOf (plan_in form) contents a → a.status ≤ 1 → a.err ≡ []
done_tells_nothing None contents a same low = let two : a.status ≡ 2 = cc (same) in absurd (omega (arith, two, low))
done_tells_nothing (Some command) contents a allowed low = done_of a (proper command contents a allowed) low

pub refused_gives_nothing : (form : Option Command) (contents : List (Option (List ℕ))) (a : Answer) → IsAnswerOf (plan_in form) contents a → 2 ≤ a.status → a.out ≡ []
refused_gives_nothing None contents a same high = cc (same)
refused_gives_nothing (Some command) contents a allowed high = refused_of a (proper command contents a allowed) high

pub usage_only : (form : Option Command) (contents : List (Option (List ℕ))) (a : Answer) → IsAnswerOf (plan_in form) contents a → (a.status ≡ 2) ↔ (form ≡ None)
usage_only None contents a same = (λ _. refl, λ _. cc (same))
usage_only (Some command) contents a allowed = (λ two. absurd (not_two a (proper command contents a allowed) two), λ none. absurd (cc (none)))

pub at_most_seven : (form : Option Command) (contents : List (Option (List ℕ))) (a : Answer) → IsAnswerOf (plan_in form) contents a → a.status ≤ 7
at_most_seven None contents a same = let two : a.status ≡ 2 = cc (same) in omega (arith, two)
at_most_seven (Some command) contents a allowed = seven_of a (proper command contents a allowed)
