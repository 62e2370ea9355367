use Rattle.std.proofs.Common.{◌||◌, get_or, false, arith}
use Rattle.nets.proofs.Truths.{begins_more}
use Rattle.ctl_picks.proofs.Inside.{inside_more}
use Rattle.ctl_rules.proofs.Kept.{asked_two, asked_more, asked_as}
use Rattle.pipe_obligations.specs.Obligations.{code_of}
use Rattle.pipe_motion_gates.proofs.Codes.{code_step, below_all, listed_past}
use Rattle.pipe_motion_gates.proofs.fetch.code_listed.Goals as goal

pub loop-k-preserved : goal.loop-k-preserved
loop-k-preserved c =
    let i0 = inside_more c.loop-k.invariant.begins c.requires.inside in
    let k1 = c.code_if.ensures.extends in
    record {
      begins = begins_more c.loop-k.invariant.begins (begins_more k1 c.or.ensures.extends);
      asked = asked_as (asked_two (λ w x y. x || y) c.or.ensures.extends (inside_more k1 i0) (asked_more k1 i0 c.loop-k.invariant.asked) c.in_ok-here.ensures.has_truth c.in_ok-any-2.ensures.has_truth)
          (λ w α cv. code_step (λ n. get_or c.args.list.now n false) (cv c.args.name) c.loop-k.k (let few = c.requires.few in let inside = c.loop-k-test.true in omega (arith, few, inside)));
    }

pub returns-clause-has_truth : goal.returns-clause-has_truth
returns-clause-has_truth c = asked_as c.loop-k.invariant.asked
    (λ w α cv. below_all (λ n. get_or c.args.list.now n false) c.loop-k.k (λ s h. listed_past c.args.list.now s (let end = c.loop-k-test.false in omega (arith, end, h))) (code_of (cv c.args.name)))
