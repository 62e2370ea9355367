use Rattle.std.proofs.lemmas.Result.{IfOk-weaker}
use Rattle.net_fields.proofs.Fields.{joined}
use Rattle.pipe_fields.proofs.Extended.{extended}
use Rattle.pipe_fields.specs.Layout.{fields_of}
use Rattle.pipe_fields.proofs.row_allowed.registers_allowed.Goals as goal

pub returns-clause-has_truth : goal.returns-clause-has_truth
unfolding fields_of
returns-clause-has_truth c =
    let with_src_b = extended _ (extended _ (extended _ c.in_ok-all.ensures.has_truth c.in_ok-all-2.ensures.has_truth) c.in_ok-all-3.ensures.has_truth) c.in_ok-all-4.ensures.has_truth in
    IfOk-weaker c.and.result _ _ (λ g made. joined with_src_b c.shares_register.ensures.extends c.in_ok-tied.ensures.has_truth made) c.and.ensures.has_truth
