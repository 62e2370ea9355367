use Rattle.std.proofs.Common.{◌∙◌, refl}
use Rattle.nets.proofs.Truths.{begins_more}
use Rattle.ctl_picks.proofs.Inside.{inside_more}
use Rattle.pipe_fields.specs.Layout.{fields_of}
use Rattle.pipe_motion.proofs.Kept.{is_flow_kept}
use Rattle.ctl_rules.proofs.Kept.{asked_more}
use Rattle.pipe_gates.proofs.Choices.{over_more}
use Rattle.pipe_obligations.specs.Obligations.{register_controls_of}
use Rattle.pipe_obligations.specs.FileSettings.{witnesses_je, witnesses_lf, witnesses_rm}
use Rattle.pipe_motion_gates.proofs.Inputs.{inputs_ready}
use Rattle.pipe_motion_gates.proofs.Shows.{jump_by, past_by, ret_by}
use Rattle.pipe_motion_gates.proofs.late_settings.late_gates.Goals as goal

pub no_load_passed-requires-clause-ready : goal.no_load_passed-requires-clause-ready
no_load_passed-requires-clause-ready c = inputs_ready c.permissive_legal.ensures.extends c.requires.inside c.requires.known c.requires.has c.in_ok-p.ensures.flow.within

pub no_jump_early-requires-clause-ready : goal.no_jump_early-requires-clause-ready
no_jump_early-requires-clause-ready c =
    let k2 = c.no_load_passed.ensures.extends in
    inputs_ready (begins_more c.permissive_legal.ensures.extends k2) c.requires.inside c.requires.known c.requires.has (is_flow_kept k2 c.in_ok-p.ensures.flow).within

pub no_jump_early-requires-clause-plain_in : goal.no_jump_early-requires-clause-plain_in
no_jump_early-requires-clause-plain_in c = (over_more c.no_load_passed.ensures.extends c.in_ok-p.ensures.plain).within

pub no_ret_early-requires-clause-ready : goal.no_ret_early-requires-clause-ready
no_ret_early-requires-clause-ready c =
    let k23 = begins_more c.no_load_passed.ensures.extends c.no_jump_early.ensures.extends in
    inputs_ready (begins_more c.permissive_legal.ensures.extends k23) c.requires.inside c.requires.known c.requires.has (is_flow_kept k23 c.in_ok-p.ensures.flow).within

pub no_ret_early-requires-clause-plain_in : goal.no_ret_early-requires-clause-plain_in
no_ret_early-requires-clause-plain_in c = (over_more (begins_more c.no_load_passed.ensures.extends c.no_jump_early.ensures.extends) c.in_ok-p.ensures.plain).within

pub returns-clause-late : goal.returns-clause-late
unfolding witnesses_lf
returns-clause-late c =
    let i1 = inside_more c.permissive_legal.ensures.extends c.requires.inside in
    let k2 = c.no_load_passed.ensures.extends in
    let told = asked_more (begins_more c.no_jump_early.ensures.extends c.no_ret_early.ensures.extends) (inside_more k2 i1) c.in_ok-lf.ensures.has_truth in
    record {
      within = told.within;
      is = λ w α cv h t. told.is w α cv t ∙ past_by c.args.v (fields_of w) (register_controls_of α cv) cv _ _ _ _ (c.in_ok-p.ensures.flow.is w) (c.in_ok-p.ensures.plain.is w α h);
    }

pub returns-clause-jump : goal.returns-clause-jump
unfolding witnesses_je
returns-clause-jump c =
    let i1 = inside_more c.permissive_legal.ensures.extends c.requires.inside in
    let k2 = c.no_load_passed.ensures.extends in
    let i2 = inside_more k2 i1 in
    let told = asked_more c.no_ret_early.ensures.extends (inside_more c.no_jump_early.ensures.extends i2) c.in_ok-je.ensures.has_truth in
    record {
      within = told.within;
      is = λ w α cv h t. told.is w α cv t ∙ jump_by _ _ _ _ _ _ ((is_flow_kept k2 c.in_ok-p.ensures.flow).is w) refl ((over_more k2 c.in_ok-p.ensures.plain).is w α h);
    }

pub returns-clause-ret : goal.returns-clause-ret
unfolding witnesses_rm
returns-clause-ret c =
    let k23 = begins_more c.no_load_passed.ensures.extends c.no_jump_early.ensures.extends in
    record {
      within = c.in_ok-rm.ensures.has_truth.within;
      is = λ w α cv h t. c.in_ok-rm.ensures.has_truth.is w α cv t ∙ ret_by _ _ _ _ _ _ ((is_flow_kept k23 c.in_ok-p.ensures.flow).is w) refl ((over_more k23 c.in_ok-p.ensures.plain).is w α h);
    }
