-- The facts on which SEQ+'s rules depend.
use Rattle.std.proofs.Common.{ℕ, ◌+◌, ◌≤◌, Bool, List, refl, arith}
use Rattle.dp_signals.specs.Tables.{constant_rows}
use Rattle.dp_signals.specs.SequentialTables.{control_rows}
use Rattle.ctl_picks.specs.declared.controls.Entry.{Entry}
use Rattle.ctl_picks.specs.Picks.{Covers}
use Rattle.ctl_given.specs.Places.{HavePlaces, Spells}
use Rattle.seq_obligations.specs.Designed.{shared_ready}
use Rattle.seq_obligations.specs.Fields.{p_cnd, plus_bit_count}
use Rattle.seq_plus.specs.PlusNames as signal
use Rattle.seq_plus.specs.PlusTable.{plus_rows, plus_state, plus_hardware, plus_defined}
use Rattle.seq_check.specs.Fields.{fields_of, number_of}
use Rattle.seq_check.specs.Obligations.{signals}
use Rattle.seq_check.specs.Rules.{IsPlusReady, places}

-- the signals of SEQ+'s table have control values
pub ready_by : (vars : ℕ) (ctl : List Entry) → plus_bit_count ≤ vars → Covers plus_rows ctl → IsPlusReady vars ctl
unfolding plus_rows constant_rows plus_state plus_hardware plus_defined control_rows
ready_by vars ctl le c =
    record {
      shared = shared_ready plus_rows signals (p_cnd.first + p_cnd.bits) vars ctl c le refl refl refl refl refl refl refl refl refl refl refl refl refl refl refl refl refl;
      code = omega arith;
      pc = c.picks signal.pc;
    }

-- each field of a signal is spelt at its place
pub spelt_at_places : (w : List Bool) → Spells places w (number_of (fields_of w))
unfolding fields_of
spelt_at_places w = (refl, (refl, (refl, (refl, (refl, (refl, (refl, (refl, (refl, tt)))))))))

pub places_stand : (vars : ℕ) → plus_bit_count ≤ vars → HavePlaces plus_rows places vars
unfolding plus_rows constant_rows plus_state plus_hardware plus_defined control_rows
places_stand vars le = record {
  placed = refl;
  inside = ((omega arith, omega arith), ((omega arith, omega arith), ((omega arith, omega arith), ((omega arith, omega arith), ((omega arith, omega arith), ((omega arith, omega arith), ((omega arith, omega arith), ((omega arith, omega arith), ((omega arith, omega arith), tt)))))))));
}
