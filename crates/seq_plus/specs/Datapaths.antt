-- The tables of the datapaths.
use Rattle.std.specs.Prelude.{List}
use Rattle.hcl_types.specs.declared.table.Datapath.{Datapath}
use Rattle.hcl_types.specs.declared.table.Datapath.TheVariants as all
use Rattle.hcl_types.specs.declared.table.SequentialDatapath.{SequentialDatapath}
use Rattle.hcl_types.specs.declared.table.SequentialDatapath.TheVariants.{Seq, SeqPlus}
use Rattle.hcl_types.specs.declared.table.Row.{Row}
use Rattle.dp_signals.specs.PipeTable.{pipe_rows}
use Rattle.dp_signals.specs.SeqTable.{seq_rows}
use Rattle.seq_plus.specs.PlusTable.{plus_rows}

-- the table of a sequential datapath
abbrev pub rows_of : SequentialDatapath → List Row
rows_of Seq = seq_rows
rows_of SeqPlus = plus_rows

-- the table of any datapath
abbrev pub table_rows : Datapath → List Row
table_rows all.Seq = rows_of Seq
table_rows all.SeqPlus = rows_of SeqPlus
table_rows all.Pipe = pipe_rows
