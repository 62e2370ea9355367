use Rattle.pipe_fields.proofs.Extended.{extended, extended_last}
use Rattle.pipe_fields.specs.Lines.{line_icode_allowed}
use Rattle.pipe_fields.specs.Allowed.{allowed}
use Rattle.pipe_fields.proofs.valuation.allowed.Goals as goal

pub returns-clause-has_truth : goal.returns-clause-has_truth
unfolding allowed line_icode_allowed
returns-clause-has_truth c =
    let with_d = extended _ c.in_ok-f.ensures.has_truth c.in_ok-all.ensures.has_truth in
    let with_m = extended _ (extended _ with_d c.in_ok-all-2.ensures.has_truth) c.in_ok-all-3.ensures.has_truth in
    extended_last c.and_write.result _ _ with_m c.and_write.ensures.has_truth
