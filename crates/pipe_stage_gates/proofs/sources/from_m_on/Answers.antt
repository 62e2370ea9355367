use Rattle.std.proofs.lemmas.Result.{IfOk-weaker}
use Rattle.ctl_picks.proofs.Inside.{inside_more}
use Rattle.ctl_atoms.specs.declared.leaf.Leaf.TheVariants.{Name}
use Rattle.dp_signals.specs.PipeNames as signal
use Rattle.ctl_rules.specs.ColumnDemands as words
use Rattle.pipe_fields.specs.Layout.{fields_of}
use Rattle.pipe_gates.proofs.Choices.{asked_older}
use Rattle.pipe_stage_gates.proofs.sources.from_m_on.Goals as goal

pub returns-clause-has_truth : goal.returns-clause-has_truth
unfolding fields_of
returns-clause-has_truth c =
    let i1 = inside_more c.picks_leaf.ensures.extends c.requires.has.inside in
    let i2 = inside_more c.from_stage.ensures.extends i1 in
    let i3 = inside_more c.from_stage-2.ensures.extends i2 in
    let i4 = inside_more c.from_stage-3.ensures.extends i3 in
    let s1 = asked_older (λ w α cv. words.is_number cv c.args.operand.source (fields_of w).w.dst_e) (λ w α cv. words.picks_leaf cv c.args.operand.word (Name signal.W_valE)) c.from_stage.ensures.extends i1 c.in_ok-file.ensures.has_truth c.in_ok-w_e.ensures.has_truth in
    let s2 = asked_older (λ w α cv. words.is_number cv c.args.operand.source (fields_of w).w.dst_m) (λ w α cv. words.picks_leaf cv c.args.operand.word (Name signal.W_valM)) c.from_stage-2.ensures.extends i2 s1 c.in_ok-w_m.ensures.has_truth in
    let s3 = asked_older (λ w α cv. words.is_number cv c.args.operand.source (fields_of w).m.dst_e) (λ w α cv. words.picks_leaf cv c.args.operand.word (Name signal.M_valE)) c.from_stage-3.ensures.extends i3 s2 c.in_ok-m_e.ensures.has_truth in
    IfOk-weaker c.from_stage-4.result _ _ (λ _ made. asked_older (λ w α cv. words.is_number cv c.args.operand.source (fields_of w).m.dst_m) (λ w α cv. words.picks_leaf cv c.args.operand.word (Name signal.m_valM)) c.from_stage-4.ensures.extends i4 s3 made)
    c.from_stage-4.ensures.has_truth
