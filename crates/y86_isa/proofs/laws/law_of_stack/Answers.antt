use Rattle.y86_isa.proofs.Stack.{PushStoresOld-advance, PopLeavesLoaded-advance}
use Rattle.y86_isa.proofs.laws.law_of_stack.Goals as goal

pub returns-clause-pushed : goal.returns-clause-pushed
returns-clause-pushed c = PushStoresOld-advance

pub returns-clause-popped : goal.returns-clause-popped
returns-clause-popped c = PopLeavesLoaded-advance
