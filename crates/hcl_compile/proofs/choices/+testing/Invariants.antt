use Rattle.hcl_types.specs.Terms.{names, word_meaning}
use Rattle.hcl_compile.proofs.Choosing.{IsRest}
use Rattle.hcl_compile.proofs.choices.+testing.Given as goal

abbrev pub invariant-put_terms-loop-left : goal.invariant-put_terms-loop-left
invariant-put_terms-loop-left l = IsRest l.constants l.quantifier names (λ env. word_meaning.holds) l.all l.left l.fn.d l.d l.to l.place

abbrev pub decreases-put_terms-loop-left : goal.decreases-put_terms-loop-left
decreases-put_terms-loop-left l = l.left
