use Rattle.std.proofs.Common.{◌+◌, ◌∙◌, ap, if◌then◌else◌, refl}
use Rattle.nets.specs.Nets.{truth}
use Rattle.nets.proofs.Truths.{begins_more}
use Rattle.ctl_picks.proofs.Inside.{inside_more}
use Rattle.pipe_fields.specs.Layout.{fields_of}
use Rattle.pipe_motion.specs.Flow.{Flow}
use Rattle.pipe_motion.proofs.Kept.{is_flow_kept}
use Rattle.pipe_gates.proofs.Choices.{over_more}
use Rattle.ctl_rules.proofs.Kept.{tells_less}
use Rattle.ctl_rules.proofs.Lists.{counted}
use Rattle.pipe_obligations.specs.Obligations.{register_controls_of}
use Rattle.pipe_obligations.specs.Rules.{demand, demand_at, is_demanded, is_always_demanded}
use Rattle.pipe_motion_gates.specs.Legality.{premise_when}
use Rattle.pipe_motion_gates.proofs.Inputs.{inputs_ready}
use Rattle.hazard_rules.proofs.Listed.{premise_by, rule_by, rules_more, rules_pushed}
use Rattle.hazard_rules.proofs.rules.rules_told.Goals as goal

pub demand_gate-requires-clause-ready : goal.demand_gate-requires-clause-ready
demand_gate-requires-clause-ready c =
    let old = c.loop-i.invariant in
    inputs_ready old.begins c.requires.inside c.requires.covers c.requires.has old.flow.within

pub loop-i-preserved : goal.loop-i-preserved
unfolding demand_at is_demanded premise_when
loop-i-preserved c =
    let old = c.loop-i.invariant in
    let inside = inside_more old.begins c.requires.inside in
    let first = c.demand_gate.ensures.extends in
    let up = begins_more first c.implies.ensures.extends in
    let number = c.loop-i.i + 1 in
    let always = over_more first old.always in
    let going = over_more first old.going in
    let made = c.in_ok-gate.ensures.has_truth in
    record {
      begins = begins_more old.begins up;
      flow = is_flow_kept up old.flow;
      always = over_more up old.always;
      going = over_more up old.going;
      count = counted _ _ _ _ c.in_ok-push.ensures old.count;
      rules = rules_pushed c.args.v c.args.s.now _ _ _ _ c.in_ok-push.ensures old.count (rules_more c.args.v c.args.s.now _ up inside old.rules) (record {
        number = refl;
        told = record {
          within = made.within;
          is = λ w α cv h t.
              let told = c.in_ok-demand.ensures.has_truth.is w α cv (tells_less c.implies.ensures.extends (inside_more first inside) t)
              ∙ ap (λ (y : Flow). demand number c.args.v c.args.s.now (fields_of w) y (register_controls_of α cv) α cv) (old.flow.is w) in
              rule_by _ _ _ _ _ (made.is w)
              (premise_by (λ g. truth c.demand_gate.new.b g w) (λ always. premise_when c.args.v c.args.s.now c.args.atoms.now always (fields_of w) α) (is_always_demanded number) _ _ _
              (c.one_of-premise.ensures ∙ ap (λ x. if x then c.in_ok-p.p.always else c.in_ok-p.p.going) c.is_always_demanded.ensures) (always.is w α h) (going.is w α h))
              told;
        };
      });
    }
