use Rattle.std.proofs.Common.{◌≡◌, drop}
use Rattle.finding_text.specs.Mending.{with_wrong}
use Rattle.finding_text.proofs.mending.put_wrong.Given as goal

abbrev pub invariant-loop-finding : goal.invariant-loop-finding
invariant-loop-finding l = with_wrong l.out.items (drop l.finding-index l.findings) ≡ with_wrong l.fn.out.items l.findings
