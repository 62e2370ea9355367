use Rattle.std.proofs.Common.{◌∙◌}
use Rattle.bdd_decide.proofs.Deciding.{valid_decided}
use Rattle.bdd_decide.proofs.pass.always_true.Goals as goal

pub returns-in-Ok-clause-decided : goal.returns-in-Ok-clause-decided
returns-in-Ok-clause-decided c =
    valid_decided _ c.args.net.now c.args.gate c.in-Ok.diagram c.valid.result (c.in-Ok.ensures.stay.vars ∙ c.requires.vars) c.in-Ok.ensures.built c.valid.ensures
