use Rattle.std.proofs.Common.{◌≤◌, ◌∷◌, length}
use Rattle.seq_refusals.specs.Answered.{AreRefuted}
use Rattle.seq_refusals.proofs.answer.refute_others.Given as goal

abbrev pub invariant-loop-k : goal.invariant-loop-k
invariant-loop-k l = record {
  refuted : AreRefuted l.file.which l.file.variant l.file.ordered.now.design.terms l.rules.atoms l.k (l.first ∷ l.others.items);
  within : l.k ≤ length l.rules.list;
}
