use Rattle.std.proofs.Common.{take}
use Rattle.hcl_compile.proofs.Rooted.{Rooted}
use Rattle.hcl_compile.proofs.compiler.put_roots.Given as goal

abbrev pub invariant-loop-t : goal.invariant-loop-t
invariant-loop-t l = Rooted l.constants l.d (take l.t-index l.all) l.roots.items
