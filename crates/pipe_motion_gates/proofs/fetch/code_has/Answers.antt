use Rattle.std.proofs.Common.{◌||◌, ◌&&◌, ◌∙◌, ap, arith}
use Rattle.nets.proofs.Truths.{begins_more}
use Rattle.y86_isa.specs.declared.columns.Row.{Row}
use Rattle.ctl_picks.proofs.Inside.{inside_more}
use Rattle.ctl_rules.specs.ColumnDemands as words
use Rattle.ctl_rules.proofs.Kept.{asked_two, asked_more, asked_as}
use Rattle.pipe_gates.specs.Columns.{has, row_passes}
use Rattle.pipe_obligations.specs.Obligations.{code_of}
use Rattle.pipe_motion_gates.proofs.Codes.{code_step, below_all, has_past}
use Rattle.pipe_motion_gates.proofs.fetch.code_has.Goals as goal

pub loop-k-preserved : goal.loop-k-preserved
loop-k-preserved c =
    let i0 = inside_more c.loop-k.invariant.begins c.requires.inside in
    let k1 = c.code_if.ensures.extends in
    let here = asked_as c.in_ok-here.ensures.has_truth (λ w α cv. ap (λ x. words.is_number cv c.args.name c.loop-k.k && x) (c.row_passes.ensures ∙ ap (λ (r : Row). row_passes r c.args.test) c.row.ensures.row)) in
    record {
      begins = begins_more c.loop-k.invariant.begins (begins_more k1 c.or.ensures.extends);
      asked = asked_as (asked_two (λ w x y. x || y) c.or.ensures.extends (inside_more k1 i0) (asked_more k1 i0 c.loop-k.invariant.asked) here c.in_ok-any-2.ensures.has_truth)
          (λ w α cv. code_step (has c.args.v c.args.test) (cv c.args.name) c.loop-k.k c.loop-k-test.true);
    }

pub returns-clause-has_truth : goal.returns-clause-has_truth
returns-clause-has_truth c = asked_as c.loop-k.invariant.asked
    (λ w α cv. below_all (has c.args.v c.args.test) c.loop-k.k (λ s h. has_past c.args.v c.args.test s (let end = c.loop-k-test.false in omega (arith, end, h))) (code_of (cv c.args.name)))
