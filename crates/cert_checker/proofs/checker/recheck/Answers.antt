use Rattle.std.proofs.Common.{◌∙◌, ◌<◌, ◌-◌, sym, ap, subst, length, take, drop, arith}
use Rattle.cert_checker.specs.Certificates.{IsRefusal}
use Rattle.cert_checker.specs.CheckerFacts.{CheckerFacts}
use Rattle.cert_checker.specs.Rules.{names}
use Rattle.cert_checker.proofs.Sound.{right_line}
use Rattle.cert_checker.proofs.Going.{IsAt, at_first, at_next, line_length, states_others, stops_at}
use Rattle.cert_checker.proofs.checker.recheck.Goals as goal

pub returns-then-not-same_settings-clause-fault : goal.returns-then-not-same_settings-clause-fault
returns-then-not-same_settings-clause-fault c =
    subst (IsRefusal c.args.g.now c.args.bytes.now) (sym c.syntax_at.ensures)
    (states_others c.args.g.now c.args.bytes.now c.in-Ok.settings _ c.in-Ok.ensures.states (c.same_settings.ensures.others c.if-not-same_settings.true))

pub lines-init : goal.lines-init
lines-init c =
    let text = c.args.bytes.now in
    record {
      vars = c.vars-vars.ensures;
      at = subst (λ (k : CheckerFacts). IsAt c.args.g.now text k (take (length text - 56) (drop 56 text)) 3) (sym c.new-known.ensures)
          (at_first c.args.g.now text c.in-Ok.settings c.in-Ok.ensures.states (c.same_settings.ensures.same c.if-not-same_settings.false) c.in-Ok.ensures.long);
    }

pub returns-in-Some-flaw-clause-fault : goal.returns-in-Some-flaw-clause-fault
returns-in-Some-flaw-clause-fault c =
    subst (IsRefusal c.args.g.now c.args.bytes.now) (sym c.fault_at.ensures)
    (stops_at c.args.g.now c.args.bytes.now c.lines.known c.lines.rest.now c.in-Some.behind.now c.lines.line c.in-Some.next c.in-Some-flaw.why c.lines.invariant.at
    c.in-Some.ensures.found.0 c.in-Some.ensures.found.1 (sym c.flaw.ensures ∙ c.in-Some-flaw.is))

pub add-requires : goal.add-requires
add-requires c =
    let right = right_line c.args.g.now.net c.lines.known c.in-Some.next (sym c.flaw.ensures ∙ c.in-None.is) in
    ap (λ vars. names vars c.lines.known c.in-Some.next) c.vars-vars.ensures ∙ right.0

pub lines-smaller : goal.lines-smaller
lines-smaller c =
    let h = line_length c.in-Some.next c.lines.rest.now c.in-Some.behind.now c.in-Some.ensures.found.1 in
    let less : length c.in-Some.behind.now < length c.lines.rest.now = omega (arith, h) in
    less

pub lines-preserved : goal.lines-preserved
lines-preserved c = record {
  vars = c.vars-vars.ensures;
  at = at_next c.args.g.now c.args.bytes.now c.lines.known c.lines.rest.now c.in-Some.behind.now c.lines.line c.in-Some.next c.add.new.self c.lines.invariant.at
      c.in-Some.ensures.found.0 (sym c.flaw.ensures ∙ c.in-None.is) c.in-Ok-add.ensures c.in-Some.ensures.found.1;
}
