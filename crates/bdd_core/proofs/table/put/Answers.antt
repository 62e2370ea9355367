use Rattle.bdd_core.proofs.Putting.{put_table}
use Rattle.bdd_core.proofs.table.put.Goals as goal

pub returns : goal.returns
returns c = record {
  table = put_table c.args.list.now c.args.at (record { var = 0; low = 0; high = 0 }) c.args.places.now c.requires.inside c.in-Vacant.i c.requires.room c.requires.table c.in-Vacant.ensures.search;
}
