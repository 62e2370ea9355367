use Rattle.std.proofs.lemmas.Bool.{eqb-true, eq-eqb}
use Rattle.bdd_core.proofs.Exact.{valid_iff}
use Rattle.bdd_core.proofs.store.Store.valid.Goals as goal

pub returns : goal.returns
returns c =
    let iff = valid_iff c.args.self.now c.args.d c.vars.ensures.reduced_after c.requires in
    (λ e. iff.0 (eqb-true c.args.d.id 1 e), λ all. eq-eqb c.args.d.id 1 (iff.1 all))
