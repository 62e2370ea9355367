use Rattle.std.proofs.lemmas.Result.{IfOk-weaker}
use Rattle.net_fields.proofs.Fields.{joined}
use Rattle.pipe_fields.specs.Layout.{fields_of}
use Rattle.pipe_fields.proofs.row_allowed.decode_code.Goals as goal

pub returns-clause-has_truth : goal.returns-clause-has_truth
unfolding fields_of
returns-clause-has_truth c =
    let with_r_a = joined c.in_ok-code.ensures.has_truth c.register_field_allowed.ensures.extends c.in_ok-r_a.ensures.has_truth c.in_ok-all.ensures.has_truth in
    IfOk-weaker c.and-2.result _ _ (λ g made. joined with_r_a c.register_field_allowed-2.ensures.extends c.in_ok-r_b.ensures.has_truth made) c.and-2.ensures.has_truth
