use Rattle.std.proofs.Common.{refl}
use Rattle.std.proofs.lemmas.Bool.{ne_eqb}
use Rattle.std.proofs.lemmas.Result.{IfOk-weaker}
use Rattle.ctl_rules.proofs.Kept.{asked_as}
use Rattle.seq_obligations.specs.Fields.{line_at}
use Rattle.seq_obligations.specs.Obligations.{rule_count}
use Rattle.seq_check.specs.Fields.{fields_of}
use Rattle.seq_check.specs.Obligations.{demand_at}
use Rattle.seq_check.proofs.rules.PlusRulesRuleFamily.demand.Goals as goal

pub returns-clause-has_truth : goal.returns-clause-has_truth
unfolding demand_at fields_of line_at
returns-clause-has_truth c =
    IfOk-weaker c.shared_demand_gate.result _ _ (λ g gate. asked_as gate (λ w α cv. rw (ne_eqb c.args.number rule_count c.if-number-eq-RULE_COUNT.false) refl))
    c.shared_demand_gate.ensures.has_truth
