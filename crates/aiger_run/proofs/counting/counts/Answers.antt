use Rattle.std.proofs.Common.{◌∙◌, ℕ, ap, subst, List}
use Rattle.std.proofs.lemmas.Result.{IfOk-weaker}
use Rattle.aiger_run.specs.Counts.{AreCountsAt}
use Rattle.aiger_run.specs.Vectors.{vector}
use Rattle.aiger_run.proofs.Places.{counts_of_vectors}
use Rattle.aiger_run.proofs.counting.counts.Goals as goal

pub returns : goal.returns
returns c =
    let net = c.args.aig.now.net in
    let outs = c.args.aig.now.outs in
    let lanes = c.in_ok-lanes.lanes.items in
    IfOk-weaker c.count_all.result _ _
    (λ counts are. counts_of_vectors net outs lanes c.args.seed counts.items (subst (λ (xs : List (List ℕ)). AreCountsAt net outs xs counts.items) c.as_slice.ensures.value are)
    (λ p low. c.in_ok-lanes.ensures.places p low ∙ ap (vector c.args.seed p) c.vars.ensures)) c.count_all.ensures
