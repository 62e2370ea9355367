use Rattle.hcl_compile.specs.declared.targets.Quantifier.TheVariants.{Any}
use Rattle.hcl_compile.proofs.Choosing.{IsRest, equals, pair_names}
use Rattle.hcl_compile.proofs.choices.put_membership.Given as goal

abbrev pub invariant-loop-left : goal.invariant-loop-left
invariant-loop-left l = IsRest l.constants Any (pair_names l.x) (equals l.x) l.all l.left l.fn.d l.d l.to l.place

abbrev pub decreases-loop-left : goal.decreases-loop-left
decreases-loop-left l = l.left
