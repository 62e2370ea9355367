use Rattle.std.proofs.Common.{[], false, refl, subst}
use Rattle.dp_signals.specs.PipeTable.{pipe_rows}
use Rattle.hazard_rules.specs.Parts.{AreEarlyGates, AreLateGates}
use Rattle.control_check.proofs.PipeVerdict.{settings_are}
use Rattle.control_check.proofs.pipe_verdict.settle.Goals as goal

pub returns-in-Err-clause-fault : goal.returns-in-Err-clause-fault
returns-in-Err-clause-fault c = c.check_fault.ensures pipe_rows c.args.ordered.now.design.terms c.in-Err.ensures.fault

pub decide_early-requires-clause-target : goal.decide_early-requires-clause-target
decide_early-requires-clause-target c = (c.in-Ok.ensures.belong.settings.target (record { pt = []; pb = []; tv = false; lf = false; je = false; rm = false })).within

pub decide_late-requires-clause-lf : goal.decide_late-requires-clause-lf
decide_late-requires-clause-lf c =
    let late = c.in-Ok-pipe_late.ensures.late c.args.ordered.now.design.terms c.in-Ok.ensures.belong in
    (late.late (record { pt = c.in-Ok-decide_early.early.pt; pb = c.in-Ok-decide_early.early.pb; tv = c.in-Ok-decide_early.early.tv; lf = false; je = false; rm = false }) refl refl refl).within

pub decide_late-requires-clause-je : goal.decide_late-requires-clause-je
decide_late-requires-clause-je c =
    let late = c.in-Ok-pipe_late.ensures.late c.args.ordered.now.design.terms c.in-Ok.ensures.belong in
    (late.jump (record { pt = c.in-Ok-decide_early.early.pt; pb = c.in-Ok-decide_early.early.pb; tv = c.in-Ok-decide_early.early.tv; lf = false; je = false; rm = false }) refl refl refl).within

pub decide_late-requires-clause-rm : goal.decide_late-requires-clause-rm
decide_late-requires-clause-rm c =
    let late = c.in-Ok-pipe_late.ensures.late c.args.ordered.now.design.terms c.in-Ok.ensures.belong in
    (late.ret (record { pt = c.in-Ok-decide_early.early.pt; pb = c.in-Ok-decide_early.early.pb; tv = c.in-Ok-decide_early.early.tv; lf = false; je = false; rm = false }) refl refl refl).within

pub returns-in-Ok-decide_late-clause-settings : goal.returns-in-Ok-decide_late-clause-settings
returns-in-Ok-decide_late-clause-settings c =
    let v = c.args.variant in
    let terms = c.args.ordered.now.design.terms in
    let parts = c.in-Ok.parts in
    let early = c.in-Ok-decide_early.early in
    let late = c.in-Ok-pipe_late.late in
    let net = c.pipe_late.new.p.net in
    let same = c.in-Ok-decide_late.ensures.early in
    let belong = c.in-Ok.ensures.belong in
    let are_closed = subst (λ x. AreEarlyGates x terms parts.net parts.pt parts.pb parts.tv) c.in-Ok.ensures.variant belong.settings in
    let are_late = subst (λ x. AreLateGates x terms early.pt early.pb early.tv net late.lf late.je late.rm) c.in-Ok.ensures.variant (c.in-Ok-pipe_late.ensures.late terms belong) in
    settings_are v terms c.args.ordered.now.order.ids c.requires.ordered parts.net parts.pt parts.pb parts.tv are_closed
    c.in-Ok-decide_late.settings early.pt early.pb early.tv c.in-Ok-decide_late.ensures.seven.0 c.in-Ok-decide_late.ensures.seven.1 same.0 same.1 same.2 c.in-Ok-decide_early.ensures.forward c.in-Ok-decide_early.ensures.backward c.in-Ok-decide_early.ensures.target
    net late.lf late.je late.rm are_late c.in-Ok-decide_late.ensures.lf c.in-Ok-decide_late.ensures.je c.in-Ok-decide_late.ensures.rm

pub returns-in-Ok-decide_late-clause-belong : goal.returns-in-Ok-decide_late-clause-belong
returns-in-Ok-decide_late-clause-belong c = c.in-Ok-pipe_late.ensures.belong c.args.ordered.now.design.terms c.in-Ok.ensures.belong
