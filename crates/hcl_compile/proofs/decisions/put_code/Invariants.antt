use Rattle.hcl_compile.proofs.Made.{PassesAll}
use Rattle.hcl_compile.proofs.decisions.put_code.Given as goal

abbrev pub invariant-loop-answer : goal.invariant-loop-answer
invariant-loop-answer l = PassesAll l.d l.name l.code l.to l.next l.answer
