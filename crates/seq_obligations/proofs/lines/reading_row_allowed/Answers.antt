use Rattle.std.proofs.Common.{refl}
use Rattle.std.proofs.lemmas.Result.{IfOk-weaker}
use Rattle.net_fields.proofs.Fields.{gate_as, joined}
use Rattle.seq_obligations.specs.Fields.{line_at}
use Rattle.seq_obligations.proofs.lines.reading_row_allowed.Goals as goal

pub returns-clause-has_truth : goal.returns-clause-has_truth
unfolding line_at
returns-clause-has_truth c = IfOk-weaker c.and-2.result _ _ (λ _ made.
    gate_as
    (joined (joined c.in_ok-read.ensures.has_truth c.register_field_allowed.ensures.extends c.in_ok-first.ensures.has_truth c.in_ok-both.ensures.has_truth) c.register_field_allowed-2.ensures.extends
    c.in_ok-second.ensures.has_truth made)
    (λ w. refl))
    c.and-2.ensures.has_truth
