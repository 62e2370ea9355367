use Rattle.std.proofs.Common.{◌≡◌, ◌∙◌, ap, refl, Bool, true, false, not, ◌&&◌, ◌||◌}
use Rattle.std.proofs.lemmas.Result.{IfOk-weaker}
use Rattle.nets.specs.Nets.{agree}
use Rattle.nets.proofs.Truths.{begins_more}
use Rattle.pipe_motion_gates.proofs.Atoms.{has_at}
use Rattle.pipe_obligations.specs.StageFlows.{below}
use Rattle.pipe_motion_gates.proofs.legality.back_matches.Goals as goal

told_by : (here a s f g here' a' s' q : Bool) → f ≡ true → g ≡ (not here' || q) → here' ≡ here → q ≡ agree a' s' → a' ≡ a → s' ≡ s → g ≡ (not (here && f) || agree a s)
told_by true a s f g here' a' s' q e h1 h2 h3 h4 h5 = rw (e, h1, h2, h3, h4, h5) refl
told_by false a s f g here' a' s' q e h1 h2 h3 h4 h5 = rw (h1, h2) refl

pub returns-in_ok-agrees-in-Some-clause-has_truth : goal.returns-in_ok-agrees-in-Some-clause-has_truth
returns-in_ok-agrees-in-Some-clause-has_truth c =
    let past = begins_more c.spells.ensures.extends c.not.ensures.extends in
    let to_4 = begins_more c.variable.ensures.extends (begins_more past c.equal.ensures.extends) in
    IfOk-weaker c.implies.result _ _ (λ _ made. record {
      within = made.within;
      is = λ w α h.
          let atom = c.in_ok-atom-in-Some.ensures.has_truth.is w ∙ h c.in-Some.k (below c.args.x c.args.y) c.in-Some.ensures in
          let set = c.in_ok-set-in-Some.ensures.has_truth.is w ∙ ap not (c.in_ok-clear-in-Some.ensures.has_truth.is w) in
          told_by _ _ _ _ _ _ _ _ _ (has_at c.args.atoms.now c.in-Some.k (below c.args.x c.args.y) c.in-Some.ensures) (made.is w) (to_4.same _ w c.requires.here)
          (c.in_ok-agrees-in-Some.ensures.has_truth.is w) (past.same _ w c.in_ok-atom-in-Some.ensures.has_truth.within ∙ atom) set;
    })
    c.implies.ensures.has_truth
