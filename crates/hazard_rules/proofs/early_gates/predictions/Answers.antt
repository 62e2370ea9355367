use Rattle.std.proofs.Common.{◌<◌, length, ◌∙◌, arith}
use Rattle.std.proofs.lemmas.List.{length-set}
use Rattle.ctl_picks.proofs.Inside.{inside_more}
use Rattle.nets.proofs.Truths.{begins_more, gate_kept}
use Rattle.ctl_rules.proofs.Kept.{asked_more, tells_less}
use Rattle.pipe_obligations.specs.FileSettings.{picks_target}
use Rattle.hazard_rules.proofs.Listed.{prediction_put, rule_by}
use Rattle.hazard_rules.proofs.early_gates.predictions.Goals as goal

pub loop-i-preserved : goal.loop-i-preserved
unfolding picks_target
loop-i-preserved c =
    let old = c.loop-i.invariant in
    let inside = inside_more old.begins c.requires.inside in
    let up = begins_more c.prediction_premise.ensures.extends c.implies.ensures.extends in
    let within : c.loop-i.i < length c.loop-i.gates = omega (arith, c.loop-i-test.true, old.size) in
    let made = c.in_ok-gate.ensures.has_truth in
    record {
      size = length-set c.loop-i.gates c.loop-i.i c.in_ok-gate.gate ∙ old.size;
      begins = begins_more old.begins up;
      taken = asked_more up inside old.taken;
      told = prediction_put c.args.v c.args.back c.loop-i.gates c.loop-i.i c.in_ok-gate.gate within up inside old.told (record {
        within = made.within;
        is = λ w α cv h t.
            rule_by _ _ _ _ _ (made.is w) (c.in_ok-asked.ensures.has_truth.is w α h)
            (c.prediction_premise.ensures.extends.same _ w old.taken.within ∙ old.taken.is w α cv (tells_less up inside t));
      });
    }

pub prediction_premise-requires-clause-fits : goal.prediction_premise-requires-clause-fits
prediction_premise-requires-clause-fits c = gate_kept c.loop-i.invariant.begins c.requires.fits
