use Rattle.std.proofs.Common.{◌∙◌}
use Rattle.std.proofs.lemmas.Result.{IfOk-weaker}
use Rattle.pipe_fields.specs.Layout.{fields_of}
use Rattle.pipe_motion_gates.specs.Legality.{premise_when}
use Rattle.pipe_motion_gates.proofs.Legal.{legal_by, premise_always, premise_going}
use Rattle.pipe_motion_gates.proofs.premises.premise_gate.Goals as goal

pub returns-then-always-clause-has_truth : goal.returns-then-always-clause-has_truth
unfolding premise_when
returns-then-always-clause-has_truth c = record {
  within = c.in_ok-both.ensures.has_truth.within;
  is = λ w α h.
      let legal = c.allowed.ensures.extends.same _ w c.in_ok-legal.ensures.has_truth.within
      ∙ (c.in_ok-legal.ensures.has_truth.is w α h ∙ legal_by c.args.v c.args.s.now c.args.atoms.now (fields_of w) α (c.requires.flow.is w)) in
      premise_always _ _ _ _ _ _ _ (c.in_ok-both.ensures.has_truth.is w) (c.in_ok-fits.ensures.has_truth.is w) legal c.if-always.true;
}

pub returns-clause-has_truth : goal.returns-clause-has_truth
unfolding premise_when
returns-clause-has_truth c = IfOk-weaker c.without.result _ _ (λ _ made. record {
  within = made.within;
  is = λ w α h.
      let legal = c.allowed.ensures.extends.same _ w c.in_ok-legal.ensures.has_truth.within
      ∙ (c.in_ok-legal.ensures.has_truth.is w α h ∙ legal_by c.args.v c.args.s.now c.args.atoms.now (fields_of w) α (c.requires.flow.is w)) in
      let both = c.stopping_gate.ensures.extends.same _ w c.in_ok-both.ensures.has_truth.within ∙ c.in_ok-both.ensures.has_truth.is w in
      premise_going _ _ _ _ _ _ _ _ _ (made.is w) both (c.in_ok-stopping.ensures.has_truth.is w) (c.in_ok-fits.ensures.has_truth.is w) legal c.if-always.false;
}) c.without.ensures.has_truth
