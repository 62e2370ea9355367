use Rattle.net_fields.proofs.Fields.{joined}
use Rattle.pipe_fields.proofs.Extended.{extended, extended_last}
use Rattle.pipe_fields.specs.Layout.{fields_of}
use Rattle.pipe_fields.specs.Allowed.{execute_row_allowed}
use Rattle.pipe_fields.proofs.row_allowed.execute_row_allowed.Goals as goal

pub returns-clause-has_truth : goal.returns-clause-has_truth
unfolding execute_row_allowed fields_of
returns-clause-has_truth c =
    let with_registers = joined c.in_ok-code.ensures.has_truth c.registers_allowed.ensures.extends c.in_ok-registers.ensures.has_truth c.in_ok-all.ensures.has_truth in
    let with_cnd = joined with_registers c.cnd_allowed.ensures.extends c.in_ok-cnd.ensures.has_truth c.in_ok-all-2.ensures.has_truth in
    rw (c.accesses.ensures, c.next_is_branch.ensures) at (extended_last c.and_live_only-2.result _ _ (extended _ with_cnd c.in_ok-all-3.ensures.has_truth) c.and_live_only-2.ensures.has_truth)
