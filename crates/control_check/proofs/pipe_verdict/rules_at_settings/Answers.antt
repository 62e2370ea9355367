use Rattle.std.proofs.Common.{sym, subst}
use Rattle.dp_signals.specs.PipeTable.{pipe_rows}
use Rattle.ctl_atoms.specs.Atoms.{AreAtoms}
use Rattle.hazard_rules.specs.Parts.{AreRules}
use Rattle.control_check.proofs.pipe_verdict.rules_at_settings.Goals as goal

pub returns-in-Ok-clause-rules : goal.returns-in-Ok-clause-rules
returns-in-Ok-clause-rules c =
    let made = c.in-Ok.rules in
    let s = c.in_ok-settled.settled.settings in
    subst (λ x. AreRules x c.args.ordered.now.design.terms s made.net made.list) c.in_ok-settled.ensures.variant
    (c.in-Ok.ensures.rules c.args.ordered.now.design.terms c.in_ok-settled.ensures.belong)

pub returns-in-Ok-clause-atoms : goal.returns-in-Ok-clause-atoms
returns-in-Ok-clause-atoms c = subst (AreAtoms pipe_rows c.args.ordered.now.design.terms) (sym c.in-Ok.ensures.atoms) c.in_ok-settled.ensures.belong.names.are
