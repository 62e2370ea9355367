use Rattle.std.proofs.Common.{◌≡◌, length}
use Rattle.y86_base.specs.Text.{lines}
use Rattle.yas_asm.specs.Assembly.{placed, labels, source_lines}
use Rattle.yas_asm.proofs.PassLemmas.{labels_from}
use Rattle.yas_asm.proofs.passes.collect_labels.Given as goal

abbrev pub invariant-loop-text : goal.invariant-loop-text
invariant-loop-text l =
    labels_from l.table (placed l.variant l.size l.address (lines l.rest)) ≡ labels (source_lines l.variant l.size l.source)

abbrev pub decreases-loop-text : goal.decreases-loop-text
decreases-loop-text l = length l.rest
