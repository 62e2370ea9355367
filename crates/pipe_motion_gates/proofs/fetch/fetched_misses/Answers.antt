use Rattle.std.proofs.Common.{◌&&◌, ◌==◌, ap}
use Rattle.std.proofs.lemmas.Result.{IfOk-weaker}
use Rattle.nets.specs.Nets.{agree}
use Rattle.nets.proofs.Truths.{begins_more}
use Rattle.dp_signals.specs.PipeNames as names
use Rattle.y86_base.specs.Words.{set}
use Rattle.ctl_picks.proofs.Inside.{inside_more}
use Rattle.pipe_fields.specs.Layout.{fields_of}
use Rattle.pipe_motion.specs.Predictions.{predicts}
use Rattle.ctl_rules.proofs.Kept.{asked_two, asked_more, asked_as, asked_gate}
use Rattle.pipe_obligations.specs.Obligations.{code_of}
use Rattle.pipe_obligations.specs.StageFlows.{is_jump}
use Rattle.pipe_motion_gates.proofs.Codes.{other_way}
use Rattle.pipe_motion_gates.proofs.fetch.fetched_misses.Goals as goal

pub returns-clause-has_truth : goal.returns-clause-has_truth
unfolding fields_of
returns-clause-has_truth c =
    let i1 = inside_more c.fetched_jumps.ensures.extends c.requires.has.inside in
    let k2 = c.fetched_way.ensures.extends in
    let i2 = inside_more k2 i1 in
    let k3 = c.spells.ensures.extends in
    let i3 = inside_more k3 i2 in
    let k4 = c.equal.ensures.extends in
    let other = asked_two (λ w x y. agree x y) k4 i3 (asked_gate c.in_ok-passed.ensures.has_truth) (asked_more k3 i2 c.in_ok-way.ensures.has_truth) c.in_ok-other.ensures.has_truth in
    IfOk-weaker c.and.result _ _ (λ _ made. asked_as (asked_two (λ w x y. x && y) c.and.ensures.extends (inside_more k4 i3) (asked_more (begins_more k2 (begins_more k3 k4)) i1 c.in_ok-here.ensures.has_truth) other made)
    (λ w α cv. ap (λ z. is_jump c.args.inputs.now.variant (code_of (cv names.f_stat)) (code_of (cv names.f_icode)) && z)
    (other_way ((fields_of w).f.taken == 0) (predicts c.args.inputs.now.settings.now (code_of (cv names.f_ifun)) (set (fields_of w).f.back)))))
    c.and.ensures.has_truth
