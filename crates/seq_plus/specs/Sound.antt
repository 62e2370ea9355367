-- SEQ+'s table is sound, by tests that compute over the whole table; and so is that of each sequential datapath.
use Rattle.std.proofs.Common.{refl, arith}
use Rattle.hcl_types.specs.Tables.{IsSound}
use Rattle.dp_signals.specs.Tables.{constant_rows}
use Rattle.dp_signals.specs.SequentialTables.{control_rows}
use Rattle.hcl_types.specs.declared.table.SequentialDatapath.{SequentialDatapath}
use Rattle.hcl_types.specs.declared.table.SequentialDatapath.TheVariants.{Seq, SeqPlus}
use Rattle.dp_signals.proofs.Sound.{seq_sound, sound, is_among, are_apart, inside_test, numbers_test, same_test}
use Rattle.seq_plus.specs.Datapaths.{rows_of}
use Rattle.seq_plus.specs.PlusTable.{plus_rows, plus_state, plus_hardware, plus_defined}

pub plus_sound : IsSound plus_rows
unfolding plus_rows plus_state plus_hardware plus_defined control_rows constant_rows is_among are_apart inside_test numbers_test same_test
plus_sound = sound plus_rows (omega arith) refl refl refl

pub sound_of : (which : SequentialDatapath) → IsSound (rows_of which)
sound_of Seq = seq_sound
sound_of SeqPlus = plus_sound
