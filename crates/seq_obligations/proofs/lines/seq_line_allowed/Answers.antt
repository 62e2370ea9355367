use Rattle.std.proofs.Common.{refl}
use Rattle.std.proofs.lemmas.Result.{IfOk-weaker}
use Rattle.net_fields.proofs.Fields.{gate_as, joined}
use Rattle.seq_obligations.specs.Fields.{line_at}
use Rattle.seq_obligations.proofs.lines.seq_line_allowed.Goals as goal

pub returns-clause-has_truth : goal.returns-clause-has_truth
unfolding line_at
returns-clause-has_truth c = IfOk-weaker c.and-2.result _ _ (λ _ made.
    gate_as
    (joined (joined c.in_ok-fetch.ensures.has_truth c.cnd_allowed.ensures.extends c.in_ok-cnd.ensures.has_truth c.in_ok-both.ensures.has_truth) c.access_fault_fits.ensures.extends
    c.in_ok-fault.ensures.has_truth made)
    (λ w. refl))
    c.and-2.ensures.has_truth
