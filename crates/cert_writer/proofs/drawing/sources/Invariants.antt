use Rattle.std.proofs.Common.{◌≡◌, map, take}
use Rattle.nets.specs.declared.copies.Replacement.TheVariants as source
use Rattle.cert_writer.proofs.drawing.sources.Given as goal

abbrev pub invariant-loop-i : goal.invariant-loop-i
invariant-loop-i l = l.to.items ≡ map source.Var (take l.i l.ranks)
