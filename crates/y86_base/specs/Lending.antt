-- The contents of a list after its elements were lent to be written.
use Rattle.std.specs.Prelude.{List, length}
use Rattle.std.specs.List.{refill}
use Rattle.std.specs.Borrow.{Lends, MutBor, Fml, Array}
use denote.RattleType.{RattleType}
use Rattle.y86_base.specs.contracts.items.Items as it

-- at the end the list has the elements that r has at its end, as many as before
abbrev pub LendsItems : (R : RattleType) → MutBor (List R.Denot) → MutBor (List R.Denot) → Fml
LendsItems R s r = Lends (it.the_row R) (Array R 0) s r (refill (length s.now) s.now)
