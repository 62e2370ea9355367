use Rattle.std.proofs.Common.{subst, arith}
use Rattle.hcl_types.specs.Lists.{IsIn}
use Rattle.hcl_order.proofs.arrange.is_ready.Goals as goal

pub all_done-requires : goal.all_done-requires
all_done-requires c n i = omega (arith, c.requires.size, c.requires.within c.args.row n (subst (IsIn n) c.needs_at.ensures i))
