use Rattle.net_fields.proofs.Fields.{joined}
use Rattle.pipe_fields.proofs.Extended.{extended_last}
use Rattle.pipe_fields.specs.Layout.{fields_of}
use Rattle.pipe_fields.proofs.row_allowed.memory_code.Goals as goal

pub returns-clause-has_truth : goal.returns-clause-has_truth
unfolding fields_of
returns-clause-has_truth c =
    let with_dst_e = joined c.in_ok-code.ensures.has_truth c.destination_allowed.ensures.extends c.in_ok-dst_e.ensures.has_truth c.in_ok-all.ensures.has_truth in
    extended_last c.and_register.result _ _ with_dst_e c.and_register.ensures.has_truth
