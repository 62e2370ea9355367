use Rattle.std.proofs.Common.{length}
use Rattle.yas_asm.proofs.PassLemmas.{IsOnWay}
use Rattle.yas_asm.proofs.passes.emit.Given as goal

abbrev pub invariant-loop-text : goal.invariant-loop-text
invariant-loop-text l = IsOnWay l.pass.variant l.pass.size l.pass.labels.now l.known l.used l.passed l.from l.address l.listing.items l.source l.rest

abbrev pub decreases-loop-text : goal.decreases-loop-text
decreases-loop-text l = length l.rest
