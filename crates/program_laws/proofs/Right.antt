-- The answers of the calls for a program that stops, in which no instruction fetches a byte that one of the three
-- before it stored.
use Rattle.std.proofs.Common.{◌≡◌, ◌≢◌, ◌*◌, ◌≤◌, inl, inr, ℕ, Bool, true, false, List, [], ◌++◌, length, Some, Result, Ok, refl, sym, ap, subst, ◌∙◌}
use Rattle.dp_signals.specs.PipeRun.{PipeHistory}
use Rattle.dp_signals.specs.PipeTable.{pipe_rows}
use Rattle.control_check.specs.PipeVerdicts.{RefinesPipe}
use Rattle.hcl_types.specs.declared.term.Term.{Term}
use Rattle.pipe_refinement.specs.Refines.{Refines}
use Rattle.prog_cosim.proofs.Refined.{ends_as, records_behind, run_behind}
use Rattle.prog_cosim.specs.Ends.{EndsAs, StopsIn}
use Rattle.program_check.specs.Near.{IsWatched}
use Rattle.program_check.specs.declared.watching.Watched.TheVariants.{Apart}
use Rattle.yis_pure_runs.specs.Near.{NearPure}
use Rattle.retire_trace.specs.Drive.{traced}
use Rattle.wb_io.specs.Sinks.{Appended}
use Rattle.y86_base.specs.Image.{IsSize}
use Rattle.y86_base.specs.declared.parts.Variant.{Variant}
use Rattle.y86_isa.specs.Run.{records, run}
use Rattle.yis_run.specs.Report.{report}
use Rattle.yo_object.specs.ObjectText.{object_of}
use Rattle.y86_words.proofs.Legal.{form_legal}
use Rattle.y86_words.specs.Forms.{form_of, psim, yis}
use Rattle.y86_words.specs.Wording.{IsInRange}
use Rattle.y86_call_laws.specs.CheckedRuns.{HasAccepted}
use Rattle.cli_runs.specs.Answers.{PipeAnswers, checked_plan, pipe_plan, psim_plan, yis_plan, yis_run}
use Rattle.cli_plans.specs.Stages.{image_of_text, run_status}
use Rattle.hcl_design.specs.Designs.{IsDesign}
use Rattle.cli_plans.specs.Designs.{RefusesDesign}
use Rattle.cli_plans.specs.PlanFollowing.{CallStates}
use Rattle.cli_runs.specs.PipeRuns.{end_of, ran_line, run_text}
use Rattle.cli_plans.specs.Known.{Known}
use Rattle.cli_plans.specs.Plan.{Answer, MayBeAnswer, value_from}
use Rattle.y86_cli.specs.CallContract.{MeetsContract}
use Rattle.y86_call_laws.proofs.Agreement.{loads_ok}
use Rattle.hcl_design.proofs.Faults.{one_design}
use Rattle.y86_call_laws.proofs.Bigs.{not_long, not_missing, not_refused, same_bytes}
use Rattle.y86_call_laws.proofs.Loaded.{loaded_is_image}
use Rattle.program_laws.specs.Prints.{PrintsReport, PrintsRun}

-- ---- the watched run

pub watched_stops : (v : Variant) (image : List ℕ) (most steps : ℕ) → IsWatched v image most (Apart steps true) → StopsIn v image steps
watched_stops v image most steps is = record { records = is.count; stopped = is.end.0 refl }

pub watched_near : (v : Variant) (image : List ℕ) (most steps : ℕ) → IsWatched v image most (Apart steps true) → (k : ℕ) → NearPure v image k
watched_near v image most steps is = is.near_on refl

-- ---- the object file, as it was read

same_image : (object : List ℕ) (size : ℕ) (bytes image other : List ℕ) → object_of bytes size ≡ Ok image → image_of_text object (object_of bytes size) ≡ Ok other → other ≡ image
same_image object size bytes image other loads loaded = let again : object_of bytes size ≡ Ok other = loads_ok object (object_of bytes size) other loaded in cc (loads, again)

not_unloaded : (object : List ℕ) (size : ℕ) (bytes image : List ℕ) (a : Answer) → object_of bytes size ≡ Ok image → image_of_text object (object_of bytes size) ≡ Result.Err a → ⊥
not_unloaded object size bytes image a loads refuses = absurd (cc (sym (ap (image_of_text object) loads) ∙ refuses))

-- ---- the answer of `psim`

record RightAnswer (v : Variant) (image : List ℕ) (steps : ℕ) (trace : Bool) (a : Answer) : Type 0 where
  cycles : ℕ
  in_time : cycles ≤ 5 * steps
  status_is : a.status ≡ run_status (run v image steps).stat
  out_is : a.out ≡ traced trace (records v image steps) ++ (ran_line cycles steps ++ report image (run v image steps) steps)

text_is : (v : Variant) (image : List ℕ) (steps cycles : ℕ) (trace : Bool) (p : PipeHistory) → StopsIn v image steps → EndsAs v image steps cycles p →
    run_text trace image cycles p ≡ traced trace (records v image steps) ++ (ran_line cycles steps ++ report image (run v image steps) steps)
text_is v image steps cycles trace p stops ends =
    let count : length p.records ≡ steps = ap length ends.retired ∙ stops.records in
    rw (count, ends.end, ends.retired) refl

right_answer : (v : Variant) (terms : List Term) (image : List ℕ) (steps limit : ℕ) (trace : Bool) (a : Answer) → ((k : ℕ) → Refines v terms image k) →
    StopsIn v image steps → 5 * steps ≤ limit → PipeAnswers v terms limit trace [] image a → RightAnswer v image steps trace a
right_answer v terms image steps limit trace a refines stops room (cycles, end, runs, said) =
    let ends = ends_as v terms image steps limit cycles end refines stops runs room in
    record {
      cycles = cycles;
      in_time = ends.in_time;
      status_is = ap (λ x. x.status) said ∙ ap (λ m. run_status m.stat) ends.end;
      out_is = ap (λ x. x.out) said ∙ text_is v image steps cycles trace end stops ends;
    }

module _ (told : List ℕ → Known) (v : Variant) (size limit : ℕ) (trace : Bool) (bytes image : List ℕ) (steps : ℕ) (loads : object_of bytes size ≡ Ok image)
    (stops : StopsIn v image steps) (near : (k : ℕ) → NearPure v image k) (sized : IsSize size) (room : 5 * steps ≤ limit) (terms : List Term) (refines : RefinesPipe v terms) where
  refines_it : (k : ℕ) → Refines v terms image k
  refines_it k = refines image k (loaded_is_image bytes size image sized loads) (near k)

  object_right : (object : List ℕ) (a : Answer) → told object ≡ Some (Some bytes) → length bytes ≤ 1048576 →
      MayBeAnswer told (pipe_plan [] terms object size limit trace v) a → RightAnswer v image steps trace a
  unfolding pipe_plan value_from
  object_right object a is short (inl failed) = absurd (not_missing (told object) bytes is failed.0)
  object_right object a is short (inr (inl long)) = absurd (not_long (told object) bytes 1048576 is short long.0)
  object_right object a is short (inr (inr (others, has, fits, inr refuses))) =
      let one : bytes ≡ others = same_bytes (told object) bytes others is has in
      absurd (not_unloaded object size bytes image a loads (subst (λ (x : List ℕ). image_of_text object (object_of x size) ≡ Result.Err a) (sym one) refuses))
  object_right object a is short (inr (inr (others, has, fits, inl (other, loaded, answers)))) =
      let one : bytes ≡ others = same_bytes (told object) bytes others is has in
      let it : other ≡ image = same_image object size bytes image other loads (subst (λ (x : List ℕ). image_of_text object (object_of x size) ≡ Ok other) (sym one) loaded) in
      right_answer v terms image steps limit trace a refines_it stops room (subst (λ (x : List ℕ). PipeAnswers v terms limit trace [] x a) it answers)

  psim_right : (name object text : List ℕ) (a : Answer) → told name ≡ Some (Some text) → length text ≤ 65536 → told object ≡ Some (Some bytes) → length bytes ≤ 1048576 →
      IsDesign pipe_rows text terms → MayBeAnswer told (psim_plan name object size limit trace false v) a → RightAnswer v image steps trace a
  unfolding psim_plan checked_plan
  psim_right name object text a is short is_object short_object design (inl failed) = absurd (not_missing (told name) text is failed.0)
  psim_right name object text a is short is_object short_object design (inr (inl long)) = absurd (not_long (told name) text 65536 is short long.0)
  psim_right name object text a is short is_object short_object design (inr (inr (other, has, fits, inr refuses))) =
      let one : text ≡ other = same_bytes (told name) text other is has in
      absurd (not_refused name pipe_rows text terms a design (subst (λ (x : List ℕ). RefusesDesign name pipe_rows x a) (sym one) refuses))
  psim_right name object text a is short is_object short_object design (inr (inr (other, has, fits, inl (others, other_design, answers)))) =
      let one : text ≡ other = same_bytes (told name) text other is has in
      let it : others ≡ terms = one_design pipe_rows text others terms (subst (λ (x : List ℕ). IsDesign pipe_rows x others) (sym one) other_design) design in
      object_right object a is_object short_object (subst (λ (x : List Term). MayBeAnswer told (pipe_plan [] x object size limit trace v) a) it answers)

pub prints_run : (words : List (List ℕ)) (name object text bytes image : List ℕ) (size limit steps : ℕ) (trace : Bool) (v : Variant) (call : CallStates) (status : ℕ) →
    form_of words ≡ Some (psim name object size limit trace false v) →
    call.files_before.told name ≡ Some (Some text) → length text ≤ 65536 → HasAccepted v (Some (Some text)) →
    call.files_before.told object ≡ Some (Some bytes) → length bytes ≤ 1048576 → object_of bytes size ≡ Ok image →
    StopsIn v image steps → ((k : ℕ) → NearPure v image k) → 5 * steps ≤ limit →
    MeetsContract (form_of words) call status → status ≢ 3 → status ≢ 4 → status ≢ 6 →
    PrintsRun v image steps trace call.out_before call.out_after status
prints_run words name object text bytes image size limit steps trace v call status is told short accepted told_object short_object loads stops near room ran
    three four six =
    let legal : IsInRange (psim name object size limit trace false v) = form_legal words (psim name object size limit trace false v) is in
    let ran_it : MeetsContract (Some (psim name object size limit trace false v)) call status = rw is at ran in
    let given = ran_it.answer three six in
    let same : text ≡ accepted.text = same_bytes (Some (Some text)) text accepted.text refl accepted.has in
    let design : IsDesign pipe_rows text accepted.terms = subst (λ (x : List ℕ). IsDesign pipe_rows x accepted.terms) (sym same) accepted.design in
    let right : RightAnswer v image steps trace given.0 =
    psim_right call.files_before.told v size limit trace bytes image steps loads stops near legal.2 room accepted.terms accepted.refines name object text given.0 told short told_object short_object design given.1.by_some in
    record {
      cycles = right.cycles;
      in_time = right.in_time;
      status_is = given.2.status_is four ∙ right.status_is;
      told = subst (λ (line : List ℕ). Appended call.out_before.taken call.out_after.taken line) right.out_is (given.2.out four);
    }

-- ---- the answer of `yis`

yis_answers : (told : List ℕ → Known) (v : Variant) (size limit : ℕ) (object bytes image : List ℕ) (a : Answer) → told object ≡ Some (Some bytes) → length bytes ≤ 1048576 →
    object_of bytes size ≡ Ok image → MayBeAnswer told (yis_plan object size limit v) a → a ≡ yis_run v image limit
unfolding yis_plan value_from
yis_answers told v size limit object bytes image a is short loads (inl failed) = absurd (not_missing (told object) bytes is failed.0)
yis_answers told v size limit object bytes image a is short loads (inr (inl long)) = absurd (not_long (told object) bytes 1048576 is short long.0)
yis_answers told v size limit object bytes image a is short loads (inr (inr (others, has, fits, inr refuses))) =
    let one : bytes ≡ others = same_bytes (told object) bytes others is has in
    absurd (not_unloaded object size bytes image a loads (subst (λ (x : List ℕ). image_of_text object (object_of x size) ≡ Result.Err a) (sym one) refuses))
yis_answers told v size limit object bytes image a is short loads (inr (inr (others, has, fits, inl (other, loaded, answers)))) =
    let one : bytes ≡ others = same_bytes (told object) bytes others is has in
    let it : other ≡ image = same_image object size bytes image other loads (subst (λ (x : List ℕ). image_of_text object (object_of x size) ≡ Ok other) (sym one) loaded) in
    answers ∙ ap (λ (x : List ℕ). yis_run v x limit) it

run_is : (v : Variant) (image : List ℕ) (steps limit : ℕ) → StopsIn v image steps → steps ≤ limit →
    ((yis_run v image limit).status ≡ run_status (run v image steps).stat) × ((yis_run v image limit).out ≡ report image (run v image steps) steps)
unfolding yis_run
run_is v image steps limit stops le = rw (run_behind v image steps limit stops le, records_behind v image steps limit stops le) (refl, refl)

pub prints_report : (words : List (List ℕ)) (object bytes image : List ℕ) (size limit steps : ℕ) (v : Variant) (call : CallStates) (status : ℕ) →
    form_of words ≡ Some (yis object size limit v) →
    call.files_before.told object ≡ Some (Some bytes) → length bytes ≤ 1048576 → object_of bytes size ≡ Ok image → StopsIn v image steps → steps ≤ limit →
    MeetsContract (form_of words) call status → status ≢ 3 → status ≢ 4 → status ≢ 6 →
    PrintsReport v image steps call.out_before call.out_after status
prints_report words object bytes image size limit steps v call status is told short loads stops le ran three four six =
    let ran_it : MeetsContract (Some (yis object size limit v)) call status = rw is at ran in
    let given = ran_it.answer three six in
    let one : given.0 ≡ yis_run v image limit = yis_answers call.files_before.told v size limit object bytes image given.0 told short loads given.1.by_some in
    let right = run_is v image steps limit stops le in
    record {
      status_is = given.2.status_is four ∙ (ap (λ (x : Answer). x.status) one ∙ right.0);
      told = subst (λ (line : List ℕ). Appended call.out_before.taken call.out_after.taken line) (ap (λ (x : Answer). x.out) one ∙ right.1) (given.2.out four);
    }
