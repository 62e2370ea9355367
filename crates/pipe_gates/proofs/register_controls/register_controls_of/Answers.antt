use Rattle.pipe_gates.proofs.Known.{known_F_stall, known_F_bubble, known_D_stall, known_D_bubble, known_E_stall, known_E_bubble, known_M_stall, known_M_bubble, known_W_stall, known_W_bubble}
use Rattle.pipe_gates.proofs.register_controls.register_controls_of.Goals as goal

pub register_control_of-requires-clause-stall_known : goal.register_control_of-requires-clause-stall_known
register_control_of-requires-clause-stall_known c = known_F_stall c.requires

pub register_control_of-requires-clause-bubble_known : goal.register_control_of-requires-clause-bubble_known
register_control_of-requires-clause-bubble_known c = known_F_bubble c.requires

pub register_control_of-requires-2-clause-stall_known : goal.register_control_of-requires-2-clause-stall_known
register_control_of-requires-2-clause-stall_known c = known_D_stall c.requires

pub register_control_of-requires-2-clause-bubble_known : goal.register_control_of-requires-2-clause-bubble_known
register_control_of-requires-2-clause-bubble_known c = known_D_bubble c.requires

pub register_control_of-requires-3-clause-stall_known : goal.register_control_of-requires-3-clause-stall_known
register_control_of-requires-3-clause-stall_known c = known_E_stall c.requires

pub register_control_of-requires-3-clause-bubble_known : goal.register_control_of-requires-3-clause-bubble_known
register_control_of-requires-3-clause-bubble_known c = known_E_bubble c.requires

pub register_control_of-requires-4-clause-stall_known : goal.register_control_of-requires-4-clause-stall_known
register_control_of-requires-4-clause-stall_known c = known_M_stall c.requires

pub register_control_of-requires-4-clause-bubble_known : goal.register_control_of-requires-4-clause-bubble_known
register_control_of-requires-4-clause-bubble_known c = known_M_bubble c.requires

pub register_control_of-requires-5-clause-stall_known : goal.register_control_of-requires-5-clause-stall_known
register_control_of-requires-5-clause-stall_known c = known_W_stall c.requires

pub register_control_of-requires-5-clause-bubble_known : goal.register_control_of-requires-5-clause-bubble_known
register_control_of-requires-5-clause-bubble_known c = known_W_bubble c.requires

pub returns-clause-inside : goal.returns-clause-inside
returns-clause-inside c = λ net h. record {
  f = c.register_control_of.ensures.inside net h;
  d = c.register_control_of-2.ensures.inside net h;
  e = c.register_control_of-3.ensures.inside net h;
  m = c.register_control_of-4.ensures.inside net h;
  w = c.register_control_of-5.ensures.inside net h;
}

pub returns-clause-encodes : goal.returns-clause-encodes
returns-clause-encodes c = λ net w α cv t i. record {
  f = c.register_control_of.ensures.encodes net w α cv t i;
  d = c.register_control_of-2.ensures.encodes net w α cv t i;
  e = c.register_control_of-3.ensures.encodes net w α cv t i;
  m = c.register_control_of-4.ensures.encodes net w α cv t i;
  w = c.register_control_of-5.ensures.encodes net w α cv t i;
}
