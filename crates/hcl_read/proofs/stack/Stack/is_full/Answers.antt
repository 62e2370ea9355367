use Rattle.hcl_read.proofs.Stacks.{not_full}
use Rattle.hcl_read.proofs.stack.Stack.is_full.Goals as goal

pub returns-in-None : goal.returns-in-None
returns-in-None c =
    not_full _ _ c.frames.room c.frames.rest.now c.in-None.ensures.cases c.frames.invariant.depth c.frames.invariant.some
