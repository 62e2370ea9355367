use Rattle.std.proofs.Common.{arith, sym, subst, length, false}
use Rattle.hcl_types.specs.Equations.{needs_of}
use Rattle.hcl_order.specs.Arranging.{IsArranged, IsPassed}
use Rattle.hcl_order.proofs.Arranging.{arranges_whole, arranges_stuck, arranged_begin}
use Rattle.hcl_order.proofs.arrange.arrange_rows.Goals as goal

pub loop-init : goal.loop-init
loop-init c = arranged_begin _ _ _ (sym c.requires.rows.0) c.requires.start

pub returns : goal.returns
returns c =
    let a : IsArranged c.args.needs.now c.args.done.now c.arrange_ready.new.done c.arrange_ready.new.ids.items =
    c.in_ok-arrange_ready.ensures.arranged c.args.done.now c.loop.invariant in
    let p : IsPassed (needs_of c.args.needs.now) (length c.args.needs.now) c.loop.done c.arrange_ready.new.done false =
    subst (IsPassed (needs_of c.args.needs.now) (length c.args.needs.now) c.loop.done c.arrange_ready.new.done) c.if-branch.false c.in_ok-arrange_ready.ensures.passed in
    record {
      order = λ e. arranges_whole _ _ c.arrange_ready.new.done _ a (c.whole.ensures.all e);
      stuck = λ e. let w = c.whole.ensures.some e in arranges_stuck _ c.arrange_ready.new.done c.loop.done c.requires.within p w.0 (omega (arith, w.1, a.size)) w.2;
    }
