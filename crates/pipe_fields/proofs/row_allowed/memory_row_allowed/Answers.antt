use Rattle.net_fields.proofs.Fields.{joined}
use Rattle.pipe_fields.proofs.Extended.{extended, extended_last}
use Rattle.pipe_fields.specs.Layout.{fields_of}
use Rattle.pipe_fields.specs.Allowed.{memory_row_allowed}
use Rattle.pipe_fields.proofs.row_allowed.memory_row_allowed.Goals as goal

pub returns-clause-has_truth : goal.returns-clause-has_truth
unfolding memory_row_allowed fields_of
returns-clause-has_truth c =
    let with_cnd = joined c.in_ok-code.ensures.has_truth c.cnd_allowed.ensures.extends c.in_ok-cnd.ensures.has_truth c.in_ok-all.ensures.has_truth in
    rw (c.accesses.ensures, c.next_is_branch.ensures) at (extended_last c.and_live_only-2.result _ _ (extended _ with_cnd c.in_ok-all-2.ensures.has_truth) c.and_live_only-2.ensures.has_truth)
