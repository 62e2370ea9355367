use Rattle.std.proofs.Common.{◌&&◌, ap, arith}
use Rattle.std.proofs.lemmas.Result.{IfOk-weaker}
use Rattle.dp_signals.specs.PipeNames as names
use Rattle.ctl_picks.proofs.Inside.{inside_more}
use Rattle.ctl_rules.proofs.Kept.{asked_two, asked_more, asked_as}
use Rattle.pipe_gates.specs.Columns.{has}
use Rattle.pipe_gates.specs.declared.columns.RowTest.TheVariants.{Jump}
use Rattle.pipe_obligations.specs.Obligations.{code_of}
use Rattle.pipe_motion_gates.proofs.Codes.{code_is}
use Rattle.pipe_motion_gates.proofs.fetch.fetched_jumps.Goals as goal

pub returns-clause-has_truth : goal.returns-clause-has_truth
returns-clause-has_truth c =
    let i1 = inside_more c.picks_leaf.ensures.extends c.requires.inside in
    let k2 = c.code_has.ensures.extends in
    IfOk-weaker c.and.result _ _ (λ _ made. asked_as (asked_two (λ w x y. x && y) c.and.ensures.extends (inside_more k2 i1) (asked_more k2 i1 c.in_ok-running.ensures.has_truth) c.in_ok-branch.ensures.has_truth made)
    (λ w α cv. ap (λ z. z && has c.args.v Jump (code_of (cv names.f_icode))) (code_is (cv names.f_stat) 1 (omega arith))))
    c.and.ensures.has_truth
