use Rattle.std.proofs.Common.{◌≤◌, ◌∙◌, arith}
use Rattle.nets.proofs.Truths.{begins_more, gate_kept}
use Rattle.ctl_picks.proofs.Inside.{inside_more}
use Rattle.pipe_fields.specs.Layout.{bit_count}
use Rattle.pipe_stage_gates.proofs.Ready.{ready_by}
use Rattle.hazard_rules.proofs.Listed.{told_more}
use Rattle.hazard_rules.proofs.early_gates.early_formulas.Goals as goal

pub returns-clause-forward : goal.returns-clause-forward
returns-clause-forward c = λ i lt.
    told_more (begins_more c.predictions-2.ensures.extends c.carries_gate.ensures.extends) (inside_more c.predictions.ensures.extends (inside_more c.allowed.ensures.extends c.requires.inside)) (c.in_ok-pt.ensures.has_truth i lt)

pub returns-clause-backward : goal.returns-clause-backward
returns-clause-backward c = λ i lt.
    told_more c.carries_gate.ensures.extends (inside_more c.predictions-2.ensures.extends (inside_more c.predictions.ensures.extends (inside_more c.allowed.ensures.extends c.requires.inside))) (c.in_ok-pb.ensures.has_truth i lt)

pub returns-clause-target : goal.returns-clause-target
returns-clause-target c = λ s. record {
  within = (c.in_ok-tv.ensures.has_truth s).within;
  is = λ w α cv h t. (c.in_ok-tv.ensures.has_truth s).is w α cv t;
}

pub carries_gate-requires-clause-ready : goal.carries_gate-requires-clause-ready
carries_gate-requires-clause-ready c =
    let same = c.predictions-2.ensures.extends.vars ∙ (c.predictions.ensures.extends.vars ∙ c.allowed.ensures.extends.vars) in
    let fields : bit_count ≤ c.predictions-2.new.b.vars = let e = c.requires.has.vars in omega (arith, same, e) in
    ready_by fields c.requires.covers

pub predictions-requires-2-clause-fits : goal.predictions-requires-2-clause-fits
predictions-requires-2-clause-fits c = gate_kept c.predictions.ensures.extends c.in_ok-fits.ensures.has_truth

pub carries_gate-requires-clause-fits : goal.carries_gate-requires-clause-fits
carries_gate-requires-clause-fits c = gate_kept (begins_more c.predictions.ensures.extends c.predictions-2.ensures.extends) c.in_ok-fits.ensures.has_truth
