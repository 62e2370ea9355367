use Rattle.std.proofs.Common.{◌≡◌, ◌++◌, ◌∷◌, [], drop, map}
use Rattle.json.specs.Token.{begin_array, boolean, key}
use Rattle.refusal_text.proofs.settings.put_truths.Given as goal

abbrev pub invariant-loop-truth : goal.invariant-loop-truth
invariant-loop-truth l = l.out.tokens ++ map boolean (drop l.truth-index l.truths) ≡ (l.fn.out.tokens ++ key l.name ∷ begin_array ∷ []) ++ map boolean l.truths
