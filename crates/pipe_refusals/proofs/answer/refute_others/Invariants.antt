use Rattle.std.proofs.Common.{◌≤◌, ◌∷◌, length}
use Rattle.pipe_refusals.specs.Answered.{AreRefuted}
use Rattle.pipe_refusals.proofs.answer.refute_others.Given as goal

abbrev pub invariant-loop-k : goal.invariant-loop-k
invariant-loop-k l = record {
  refuted : AreRefuted l.file.variant l.file.ordered.now.design.terms l.file.settings.now l.rules.atoms l.from (l.first ∷ l.others.items);
  within : l.from ≤ length l.rules.list;
  many : l._k ≤ l.from;
}
