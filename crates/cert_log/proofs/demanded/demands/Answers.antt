use Rattle.std.proofs.Common.{◌++◌, ◌∷◌, [], List, ap, cond, map, ◌∙◌}
use Rattle.ctl_rules.specs.declared.rules.Rule.{Rule}
use Rattle.cert_log.specs.DesignDemands.{gate_of}
use Rattle.cert_log.proofs.Wanted.{demanded, inside}
use Rattle.cert_log.proofs.demanded.demands.Goals as goal

pub returns-in-Ok-wanted-clause-demands : goal.returns-in-Ok-wanted-clause-demands
returns-in-Ok-wanted-clause-demands c =
    demanded c.args.variant c.args.ordered.now.design.terms c.args.ordered.now.order.ids c.args.settings c.in_ok-parts.parts c.in-Ok.rules.net c.in-Ok.rules.list c.of.result
    c.requires.ordered c.in_ok-parts.ensures.belong c.in_ok-parts.ensures.variant (c.in-Ok.ensures.rules c.args.ordered.now.design.terms c.in_ok-parts.ensures.belong) c.in-Ok.ensures.extends
    (c.of.ensures ∙ c.in-Ok-wanted.ensures ∙ ap (λ (xs : List Rule). map gate_of xs ++ cond c.args.settings.tv (c.in_ok-parts.parts.tv ∷ []) []) c.items.ensures)

pub returns-in-Ok-wanted-clause-inside : goal.returns-in-Ok-wanted-clause-inside
returns-in-Ok-wanted-clause-inside c = inside c.args.variant c.args.ordered.now.design.terms c.args.settings _ (returns-in-Ok-wanted-clause-demands c)
