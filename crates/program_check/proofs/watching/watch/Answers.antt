use Rattle.std.proofs.Common.{◌≡◌, not, false, length, sym, ap, ◌∙◌, subst, arith}
use Rattle.std.proofs.lemmas.Bool.{false≢true}
use Rattle.y86_isa.proofs.Runs.{records_from-none, run_from-none}
use Rattle.y86_isa.specs.Machine.{is_aok, start}
use Rattle.y86_isa.specs.Run.{run}
use Rattle.y86_isa.specs.Step.{retired}
use Rattle.y86_isa.specs.declared.machine.Machine.{Machine}
use Rattle.program_check.specs.Near.{IsNearest, IsWatched, StoredApart}
use Rattle.program_check.proofs.Steps.{after_step, aok_by, ended, first_near, near_more, one_record}
use Rattle.program_check.proofs.Told.{more_recent, none_recent}
use Rattle.program_check.specs.declared.watching.Watched.TheVariants.{Apart}
use Rattle.program_check.proofs.watching.watch.Goals as goal
use Rattle.program_check.proofs.watching.watch.Goals.{else-loop-steps-test, then-loop-steps-test+then-has_stopped}

pub loop-steps-init : goal.loop-steps-init
loop-steps-init c = record {
  within = omega arith;
  machine = c.start-machine.ensures ∙ sym (run_from-none c.args.v (start c.args.image));
  recent = none_recent c.args.v c.args.image;
  pure = λ i j address within. absurd (omega (arith, within));
  count = sym (ap length (records_from-none c.args.v (start c.args.image)));
}

pub returns-in-Some : goal.returns-in-Some
returns-in-Some c =
    let l = c.loop-steps in
    let v = c.args.v in
    let image = c.args.image in
    let some = c.in-Some.ensures.some in
    let at : l.machine ≡ run v image l.steps = l.invariant.machine in
    let aok = aok_by l.machine.stat (sym c.has_stopped.ensures ∙ c.if-has_stopped.false) in (
      omega (arith, some.0, c.loop-steps-test.true),
      first_near v image l.steps l.recent l.invariant.recent c.in-Some.found l.invariant.pure
          (sym (ap (λ (m : Machine). m.stat) at) ∙ aok) some.0 (some.1 ∙ ap (λ (m : Machine). m.pc) at)
          (subst (λ m. IsNearest v m l.recent c.in-Some.found) at some.2),
    )

pub loop-steps-preserved : goal.loop-steps-preserved
loop-steps-preserved c =
    let l = c.loop-steps in
    let v = c.args.v in
    let image = c.args.image in
    let at : l.machine ≡ run v image l.steps = l.invariant.machine in
    let none = c.in_default.ensures.none in
    let told = c.step-told.ensures.record ∙ ap (retired v) at in
    record {
      within = omega (arith, c.loop-steps-test.true);
      machine = after_step v image l.steps l.machine c.step-told.new.m at c.step-told.ensures.machine;
      recent = more_recent v image l.steps l.recent c.step-told.result l.invariant.recent told;
      pure = near_more v image l.steps l.recent l.invariant.recent l.invariant.pure
          (subst (λ m. StoredApart v m l.recent.last) at none.0) (subst (λ m. StoredApart v m l.recent.second) at none.1) (subst (λ m. StoredApart v m l.recent.third) at none.2);
      count = one_record v image l.steps (sym (ap (λ (m : Machine). m.stat) at) ∙ aok_by l.machine.stat (sym c.has_stopped.ensures ∙ c.if-has_stopped.false)) l.invariant.count;
    }

pub returns : goal.returns
returns c =
    let l = c.loop-steps in
    let v = c.args.v in
    let image = c.args.image in
    let whole : not (is_aok l.machine.stat) ≡ false → l.steps ≡ c.args.limit =
    elim c.loop-steps-test.branch [
      | else-loop-steps-test w ↦ λ _. omega (arith, l.invariant.within, w.loop-steps-test)
      | then-loop-steps-test+then-has_stopped w ↦ λ off. absurd (false≢true (sym off ∙ (sym w.has_stopped.ensures ∙ w.if-has_stopped.true)))
    ] in
    subst (λ b. IsWatched v image c.args.limit (Apart l.steps b)) (sym c.has_stopped-2.ensures)
    (ended v image l.steps c.args.limit l.machine l.invariant.machine l.invariant.pure l.invariant.count l.invariant.within whole)
