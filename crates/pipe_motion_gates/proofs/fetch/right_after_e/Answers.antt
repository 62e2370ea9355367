use Rattle.std.proofs.Common.{◌&&◌, ◌==◌, ◌∙◌, if◌then◌else◌, ap}
use Rattle.std.proofs.lemmas.Result.{IfOk-weaker}
use Rattle.nets.proofs.Truths.{begins_more}
use Rattle.ctl_atoms.specs.declared.leaf.Leaf.TheVariants.{Name}
use Rattle.dp_signals.specs.PipeNames as names
use Rattle.ctl_picks.proofs.Inside.{inside_more}
use Rattle.pipe_fields.specs.Layout.{fields_of}
use Rattle.ctl_rules.specs.ColumnDemands as words
use Rattle.ctl_rules.proofs.Kept.{asked_two, asked_more, asked_as, asked_gate}
use Rattle.pipe_motion_gates.proofs.Codes.{choose_other}
use Rattle.pipe_motion_gates.proofs.fetch.right_after_e.Goals as goal

pub returns-clause-has_truth : goal.returns-clause-has_truth
unfolding fields_of
returns-clause-has_truth c =
    let k1 = c.jump.ensures.extends in
    let i1 = inside_more k1 c.requires.has.inside in
    let k2 = c.spells.ensures.extends in
    let i2 = inside_more k2 i1 in
    let k3 = c.picks_leaf_if.ensures.extends in
    let here = asked_more (begins_more k2 k3) i1 (asked_gate c.in_ok-here.ensures.has_truth) in
    let taken = asked_as c.in_ok-taken.ensures.has_truth (λ w α cv. ap (words.picks_leaf cv names.f_pc)
    (ap (λ z. if z then Name names.E_valA else Name names.E_valC) (c.in_ok-falls.ensures.has_truth.is w) ∙ choose_other ((fields_of w).e.cnd == 0) (Name names.E_valA) (Name names.E_valC))) in
    IfOk-weaker c.and.result _ _ (λ _ made. asked_two (λ w x y. x && y) c.and.ensures.extends (inside_more k3 i2) here taken made)
    c.and.ensures.has_truth
