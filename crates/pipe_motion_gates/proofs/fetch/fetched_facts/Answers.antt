use Rattle.nets.proofs.Truths.{begins_more, gate_kept}
use Rattle.ctl_picks.proofs.Inside.{inside_more}
use Rattle.ctl_rules.proofs.Kept.{asked_more}
use Rattle.pipe_motion_gates.proofs.fetch.fetched_facts.Goals as goal

pub returns-clause-has_truth : goal.returns-clause-has_truth
returns-clause-has_truth c =
    let i0 = c.requires.has.inside in
    let k1 = c.constant.ensures.extends in
    let k2 = c.constant-2.ensures.extends in
    let i2 = inside_more (begins_more k1 k2) i0 in
    let k3 = c.fetched_stops.ensures.extends in
    let i3 = inside_more k3 i2 in
    let k4 = c.code_has.ensures.extends in
    let i4 = inside_more k4 i3 in
    let k5 = c.fetched_misses.ensures.extends in
    let good = gate_kept (begins_more k2 (begins_more k3 (begins_more k4 k5))) c.in_ok-good.ensures.has_truth in
    let wrong = gate_kept (begins_more k3 (begins_more k4 k5)) c.in_ok-wrong.ensures.has_truth in
    let stops = asked_more (begins_more k4 k5) i3 c.in_ok-stops.ensures.has_truth in
    let ret = asked_more k5 i4 c.in_ok-ret.ensures.has_truth in
    let missed = c.in_ok-missed.ensures.has_truth in
    record {
      within = record { good = good.within; wrong = wrong.within; stops = stops.within; ret = ret.within; missed = missed.within };
      is = λ w α cv t.
          λ i. record { good = good.is w i; wrong = wrong.is w i; stops = stops.is w α cv t i; ret = ret.is w α cv t i; missed = missed.is w α cv t i };
    }
