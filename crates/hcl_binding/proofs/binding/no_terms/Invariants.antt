use Rattle.std.proofs.Common.{◌≡◌, take}
use Rattle.hcl_binding.specs.BindSteps.{no_terms}
use Rattle.hcl_binding.proofs.binding.no_terms.Given as goal

abbrev pub invariant-loop : goal.invariant-loop
invariant-loop l = l.bodies.items ≡ no_terms (take l.index l.rows)
