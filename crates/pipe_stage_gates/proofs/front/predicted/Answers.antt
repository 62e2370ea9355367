use Rattle.std.proofs.Common.{◌≡◌, not, Bool, true, false, if◌then◌else◌, refl, ◌∙◌}
use Rattle.std.proofs.lemmas.Result.{IfOk-weaker}
use Rattle.nets.proofs.Truths.{begins_more}
use Rattle.pipe_fields.specs.Layout.{fields_of}
use Rattle.pipe_stage_gates.proofs.front.predicted.Goals as goal

chosen : (z z' f f' b b' g : Bool) → z ≡ z' → f ≡ f' → b ≡ b' → g ≡ (if z then f else b) → g ≡ (if not z' then b' else f')
chosen z z' f f' b b' g e1 e2 e3 h = rw (h, e1, e2, e3) (other_way z' f' b')
  where
    other_way : (z f b : Bool) → (if z then f else b) ≡ (if not z then b else f)
    other_way true f b = refl
    other_way false f b = refl

pub returns-clause-has_truth : goal.returns-clause-has_truth
unfolding fields_of
returns-clause-has_truth c = IfOk-weaker c.choose.result _ _ (λ _ made. record {
  within = made.within;
  is = λ w.
      let forward = (begins_more c.listed-2.ensures.extends c.spells.ensures.extends).same _ w c.in_ok-forward.ensures.has_truth.within ∙ c.in_ok-forward.ensures.has_truth.is w in
      let backward = c.spells.ensures.extends.same _ w c.in_ok-backward.ensures.has_truth.within ∙ c.in_ok-backward.ensures.has_truth.is w in
      chosen _ _ _ _ _ _ _ (c.in_ok-ahead.ensures.has_truth.is w) forward backward (made.is w);
}) c.choose.ensures.has_truth
