use Rattle.std.proofs.Common.{◌∙◌, ◌&&◌, not, ap, sym}
use Rattle.pipe_fields.specs.Layout.{fields_of}
use Rattle.pipe_fields.specs.Allowed.{allowed}
use Rattle.pipe_motion.specs.declared.settings.Settings.{Settings}
use Rattle.pipe_motion.proofs.Kept.{is_flow_kept}
use Rattle.pipe_motion_gates.specs.Legality.{premise_when}
use Rattle.pipe_obligations.specs.FileSettings.{may_witness}
use Rattle.pipe_obligations.specs.StageFlows.{is_stopping, legal}
use Rattle.pipe_motion_gates.proofs.late_settings.permissive_legal.Goals as goal

pub returns-clause-flow : goal.returns-clause-flow
returns-clause-flow c = is_flow_kept c.premise_gate.ensures.extends c.in_ok-flow.ensures.has_truth

pub returns-clause-plain : goal.returns-clause-plain
unfolding premise_when may_witness
returns-clause-plain c = record {
  within = c.in_ok-plain.ensures.has_truth.within;
  is = λ w α h. c.in_ok-plain.ensures.has_truth.is w α h
      ∙ ap (λ (x : Settings). allowed c.args.v (fields_of w) && (legal c.args.v x c.args.atoms.now (fields_of w) α && not (is_stopping (fields_of w)))) (sym c.requires.free);
}
