use Rattle.hcl_compile.proofs.Valuing.{IsCase}
use Rattle.hcl_compile.proofs.choices.+valuing.Given as goal

abbrev pub invariant-put_case-loop-left : goal.invariant-put_case-loop-left
invariant-put_case-loop-left l = IsCase l.constants l.all l.left l.fn.d l.d l.place

abbrev pub decreases-put_case-loop-left : goal.decreases-put_case-loop-left
decreases-put_case-loop-left l = l.left
