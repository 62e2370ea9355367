use Rattle.std.proofs.Common.{◌∙◌, ◌/◌, ◌%◌, arith}
use Rattle.lane_eval.proofs.Shifted.{across_words}
use Rattle.lane_eval.proofs.Written.{put_others, chosen_same, chosen_other}
use Rattle.lane_eval.proofs.words.put_words.Goals as goal

pub returns-clause-put : goal.returns-clause-put
returns-clause-put c q h same =
    across_words q (q % 64) c.loop-i.lanes c.args.words.now (omega (arith, c.requires.size))
    (λ u within. c.loop-i.invariant.done u q (omega arith) h ∙ chosen_same (q / 64) c.args.l _ _ same)

pub returns-clause-others : goal.returns-clause-others
returns-clause-others c q h other =
    put_others q c.loop-i.lanes c.args.lanes.now (omega arith) (λ u within. c.loop-i.invariant.done u q (omega arith) h ∙ chosen_other (q / 64) c.args.l _ _ other)
