-- The destinations of a record that retires.
use Rattle.std.specs.Prelude.{◌≤◌}
use Rattle.y86_isa.specs.declared.machine.Rec.{Rec}

-- register numbers, or 15 for none
pub record HasDestinations (r : Rec) : Type 0 where
  pub e : r.dst_e ≤ 15
  pub m : r.dst_m ≤ 15
