use Rattle.std.proofs.Common.{ℕ, subst, List, length}
use Rattle.std.proofs.lemmas.Result.{IfOk-weaker}
use Rattle.aiger_run.specs.Counts.{AreCounted}
use Rattle.aiger_run.proofs.Places.{counts_at}
use Rattle.aiger_run.proofs.counting.count_all.Goals as goal

pub returns : goal.returns
returns c =
    IfOk-weaker c.count_gates.result _ _
    (λ counts counted. counts_at c.args.aig.now.net c.args.aig.now.outs c.args.lanes.now c.run.new.self counts.items c.run.ensures.has_truth c.requires.gates c.run.ensures.truths
    (subst (λ (gates : List ℕ). AreCounted c.run.new.self gates (length gates) counts.items) c.items.ensures counted)) c.count_gates.ensures
