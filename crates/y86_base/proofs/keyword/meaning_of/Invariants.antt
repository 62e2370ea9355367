use Rattle.std.proofs.Common.{◌≡◌, map, length}
use Rattle.y86_base.specs.Keyword.{meaning_of}
use Rattle.y86_base.specs.Keyword.{entry}
use Rattle.y86_base.proofs.keyword.meaning_of.Given as goal

abbrev pub invariant-loop-row : goal.invariant-loop-row
invariant-loop-row g l = meaning_of (map entry l.rows) l.text ≡ meaning_of (map entry l.fn.rows) l.text

abbrev pub decreases-loop-row : goal.decreases-loop-row
decreases-loop-row g l = length l.rows
