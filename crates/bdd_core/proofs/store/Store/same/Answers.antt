use Rattle.std.proofs.lemmas.Bool.{eqb-true, eq-eqb}
use Rattle.bdd_core.proofs.Exact.{same_iff}
use Rattle.bdd_core.proofs.store.Store.same.Goals as goal

pub returns : goal.returns
returns c =
    let iff = same_iff c.args.self.now c.args.a c.args.b c.vars.ensures.reduced_after c.requires.left c.requires.right in
    (λ e. iff.0 (eqb-true c.args.a.id c.args.b.id e), λ all. eq-eqb c.args.a.id c.args.b.id (iff.1 all))
