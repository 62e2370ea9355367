use Rattle.std.proofs.Common.{inr, subst}
use borrow.Author.Tests.{ltb-false}
use Rattle.hcl_types.specs.Lists.{IsIn}
use Rattle.hcl_order.proofs.Layering.{none_of}
use Rattle.hcl_order.proofs.layers.is_next.Goals as goal

pub least_marked-requires : goal.least_marked-requires
least_marked-requires c n i = rw (← c.requires.size) (c.requires.within c.args.row n (subst (λ xs. IsIn n xs) c.needs_at.ensures i))

pub returns-then-marks-row-eq0-clause-no : goal.returns-then-marks-row-eq0-clause-no
returns-then-marks-row-eq0-clause-no c e =
    inr (none_of _ c.args.row c.args.level _ c.args.marks.now _ c.requires.within c.requires.size c.needs_at.ensures (ltb-false _ _ e) c.least_marked.ensures.least)
