use Rattle.std.proofs.Common.{◌≡◌, map, length}
use Rattle.y86_base.specs.Keyword.{keyword_at}
use Rattle.y86_base.specs.Keyword.{entry}
use Rattle.y86_base.proofs.keyword.keyword_at.Given as goal

abbrev pub invariant-loop-row : goal.invariant-loop-row
invariant-loop-row g l = keyword_at (map entry l.rows) l.text ≡ keyword_at (map entry l.fn.rows) l.text

abbrev pub decreases-loop-row : goal.decreases-loop-row
decreases-loop-row g l = length l.rows
