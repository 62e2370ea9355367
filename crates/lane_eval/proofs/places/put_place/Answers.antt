use Rattle.std.proofs.Common.{◌∙◌, arith}
use Rattle.lane_eval.proofs.Written.{put_whole, put_others, chosen_same, chosen_other}
use Rattle.std.proofs.Common.{refl}
use Rattle.lane_eval.proofs.places.put_place.Goals as goal

pub returns-clause-put : goal.returns-clause-put
returns-clause-put c =
    put_whole c.args.p c.loop-i.lanes c.args.truths.now (omega (arith, c.requires.size))
    (λ u h. c.loop-i.invariant.done u c.args.p (omega arith) c.requires.place ∙ chosen_same c.args.p c.args.p _ _ refl)

pub returns-clause-others : goal.returns-clause-others
returns-clause-others c q h other =
    put_others q c.loop-i.lanes c.args.lanes.now (omega arith) (λ u within. c.loop-i.invariant.done u q (omega arith) h ∙ chosen_other q c.args.p _ _ other)
