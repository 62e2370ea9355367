use Rattle.std.proofs.Common.{◌≡◌, true, slice_index, arith, sym, ◌∙◌}
use Rattle.hcl_types.specs.Equations.{is_known}
use Rattle.hcl_order.proofs.Members.{in_at, each_at}
use Rattle.hcl_order.proofs.arrange.all_done.Goals as goal

pub is_done-requires : goal.is_done-requires
is_done-requires c = c.requires _ (in_at c.args.needs.now c.loop-row.row-index c.loop-row-test.true)

pub returns-then-not-is_done-clause-left : goal.returns-then-not-is_done-clause-left
returns-then-not-is_done-clause-left c _ = (slice_index c.args.needs.now c.loop-row.row-index, in_at c.args.needs.now c.loop-row.row-index c.loop-row-test.true, sym c.is_done.ensures ∙ c.if-not-is_done.true)

pub returns : goal.returns
returns c = record {
  done = λ _. each_at (λ n. is_known c.args.done.now n ≡ true) c.args.needs.now (λ k h. c.loop-row.invariant k (omega (arith, c.loop-row-test.false)));
  left = λ e. absurd (cc);
}
