-- The names of the datapaths, as the book writes them.
use Rattle.std.specs.Prelude.{ℕ, codes, List}
use Rattle.hcl_types.specs.declared.table.Datapath.{Datapath}
use Rattle.hcl_types.specs.declared.table.Datapath.TheVariants.{Seq, SeqPlus, Pipe}

abbrev pub datapath_name : Datapath → List ℕ
datapath_name Seq = codes "SEQ"
datapath_name SeqPlus = codes "SEQ+"
datapath_name Pipe = codes "PIPE"
