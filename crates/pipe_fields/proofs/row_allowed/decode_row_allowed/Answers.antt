use Rattle.net_fields.proofs.Fields.{joined}
use Rattle.pipe_fields.proofs.Extended.{extended, extended_last}
use Rattle.pipe_fields.specs.Layout.{fields_of}
use Rattle.pipe_fields.specs.Allowed.{decode_row_allowed}
use Rattle.pipe_fields.proofs.row_allowed.decode_row_allowed.Goals as goal

pub returns-clause-has_truth : goal.returns-clause-has_truth
unfolding decode_row_allowed fields_of
returns-clause-has_truth c =
    let with_taken = joined c.in_ok-code.ensures.has_truth c.decode_taken.ensures.extends c.in_ok-taken.ensures.has_truth c.in_ok-all.ensures.has_truth in
    rw (c.next_is_branch.ensures, c.accesses.ensures, c.next_is_branch-2.ensures) at (extended_last c.and_live_only-2.result _ _ (extended _ with_taken c.in_ok-all-2.ensures.has_truth) c.and_live_only-2.ensures.has_truth)
