use Rattle.std.proofs.Common.{rules, ◌≡◌, false, get_or, true}
use Rattle.bdd_core.proofs.Knowing.{reads_known}
use Rattle.bdd_core.proofs.store.Store.add_marked.Goals as goal

pub add_to-requires-clause-reads : goal.add_to-requires-clause-reads
add_to-requires-clause-reads c g is reads =
    let marked : get_or c.args.needed.now c.args.i false ≡ true = search rules in
    reads_known c.args.built.now c.requires.cone c.requires.before is marked reads
