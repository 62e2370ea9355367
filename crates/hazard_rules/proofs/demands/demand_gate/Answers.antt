use Rattle.pipe_stage_gates.proofs.Ready.{ready_by, front_ready_by}
use Rattle.hazard_rules.proofs.demands.demand_gate.Goals as goal

pub obligation_1-requires-clause-ready : goal.obligation_1-requires-clause-ready
obligation_1-requires-clause-ready c = front_ready_by c.requires.ready.has.vars c.requires.ready.known

pub fetch_rule_gate-requires-clause-ready : goal.fetch_rule_gate-requires-clause-ready
fetch_rule_gate-requires-clause-ready c = front_ready_by c.requires.ready.has.vars c.requires.ready.known

pub fetch_rule_gate-requires-in-3-clause-ready : goal.fetch_rule_gate-requires-in-3-clause-ready
fetch_rule_gate-requires-in-3-clause-ready c = front_ready_by c.requires.ready.has.vars c.requires.ready.known

pub fetch_rule_gate-requires-in-4-clause-ready : goal.fetch_rule_gate-requires-in-4-clause-ready
fetch_rule_gate-requires-in-4-clause-ready c = front_ready_by c.requires.ready.has.vars c.requires.ready.known

pub obligation_5-requires-clause-ready : goal.obligation_5-requires-clause-ready
obligation_5-requires-clause-ready c = front_ready_by c.requires.ready.has.vars c.requires.ready.known

pub decode_rule_gate-requires-clause-ready : goal.decode_rule_gate-requires-clause-ready
decode_rule_gate-requires-clause-ready c = front_ready_by c.requires.ready.has.vars c.requires.ready.known

pub decode_rule_gate-requires-in-7-clause-ready : goal.decode_rule_gate-requires-in-7-clause-ready
decode_rule_gate-requires-in-7-clause-ready c = front_ready_by c.requires.ready.has.vars c.requires.ready.known

pub decode_rule_gate-requires-in-8-clause-ready : goal.decode_rule_gate-requires-in-8-clause-ready
decode_rule_gate-requires-in-8-clause-ready c = front_ready_by c.requires.ready.has.vars c.requires.ready.known

pub decode_rule_gate-requires-in-9-clause-ready : goal.decode_rule_gate-requires-in-9-clause-ready
decode_rule_gate-requires-in-9-clause-ready c = front_ready_by c.requires.ready.has.vars c.requires.ready.known

pub demand_in_e-requires-clause-ready : goal.demand_in_e-requires-clause-ready
demand_in_e-requires-clause-ready c = ready_by c.requires.ready.has.vars c.requires.ready.known

pub demand_in_e-requires-in-13-clause-ready : goal.demand_in_e-requires-in-13-clause-ready
demand_in_e-requires-in-13-clause-ready c = ready_by c.requires.ready.has.vars c.requires.ready.known

pub obligation_14-requires-clause-ready : goal.obligation_14-requires-clause-ready
obligation_14-requires-clause-ready c = ready_by c.requires.ready.has.vars c.requires.ready.known

pub obligation_15-requires-clause-ready : goal.obligation_15-requires-clause-ready
obligation_15-requires-clause-ready c = ready_by c.requires.ready.has.vars c.requires.ready.known

pub obligation_16-requires-clause-ready : goal.obligation_16-requires-clause-ready
obligation_16-requires-clause-ready c = ready_by c.requires.ready.has.vars c.requires.ready.known

pub obligation_17-requires-clause-ready : goal.obligation_17-requires-clause-ready
obligation_17-requires-clause-ready c = ready_by c.requires.ready.has.vars c.requires.ready.known

pub obligation_18-requires-clause-ready : goal.obligation_18-requires-clause-ready
obligation_18-requires-clause-ready c = ready_by c.requires.ready.has.vars c.requires.ready.known

pub obligation_19-requires-clause-ready : goal.obligation_19-requires-clause-ready
obligation_19-requires-clause-ready c = ready_by c.requires.ready.has.vars c.requires.ready.known

pub obligation_20-requires-clause-ready : goal.obligation_20-requires-clause-ready
obligation_20-requires-clause-ready c = ready_by c.requires.ready.has.vars c.requires.ready.known

pub obligation_21-requires-clause-ready : goal.obligation_21-requires-clause-ready
obligation_21-requires-clause-ready c = ready_by c.requires.ready.has.vars c.requires.ready.known

pub obligation_22-requires-clause-ready : goal.obligation_22-requires-clause-ready
obligation_22-requires-clause-ready c = ready_by c.requires.ready.has.vars c.requires.ready.known
