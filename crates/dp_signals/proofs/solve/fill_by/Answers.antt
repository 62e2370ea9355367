use Rattle.std.proofs.Common.{◌≡◌, ◌≤◌, ◌+◌, ◌∙◌, ap, sym, length, drop, slice_index_or, slice_set, arith, length-set}
use Rattle.std.proofs.lemmas.List.{at_drop_more}
use Rattle.hcl_types.specs.Terms.{at}
use Rattle.dp_signals.specs.Equations.{rule_of, values_along}
use Rattle.dp_signals.proofs.Assumed.{computed_behind, starts_set}
use Rattle.dp_signals.proofs.solve.fill_by.Goals as goal

pub loop-id-preserved : goal.loop-id-preserved
loop-id-preserved g c =
    let before = c.loop-id.invariant in
    let hardware = c.args.hardware.now in
    let rule = rule_of (g.H.Hardware.given hardware) c.args.first (g.H.Hardware.block hardware) c.args.design.now.terms in
    let n = slice_index_or c.args.ids.now c.loop-id.id-index 0 in
    let behind : length (g.H.Hardware.given hardware) ≤ n =
    computed_behind (length (g.H.Hardware.given c.args.hardware.now)) c.args.first c.args.design.now.terms (length c.args.values.now) c.args.ids.now c.loop-id.id-index c.loop-id-test.true c.requires.computed in
    let value : c.entry-value.result ≡ rule n (at c.loop-id.values) = rw (← before.hardware) c.entry-value.ensures.value in
    record {
      hardware = c.entry-value.ensures.hardware ∙ before.hardware;
      size = length-set c.loop-id.values n c.entry-value.result ∙ before.size;
      evaluates = c.entry-value.ensures.kept;
      assumes = c.entry-value.ensures.same ∙ before.assumes;
      assumed = rw c.entry-value.ensures.same
          (starts_set (g.C.SignalEval.assumes c.loop-id.c) c.loop-id.values n c.entry-value.result before.assumed.0 (omega (arith, before.assumed.1, behind)), before.assumed.1);
      along = ap (λ x. values_along rule (slice_set c.loop-id.values n x) (drop (c.loop-id.id-index + 1) c.args.ids.now)) value
          ∙ sym (at_drop_more (values_along rule c.loop-id.values) c.args.ids.now c.loop-id.id-index 0 c.loop-id-test.true) ∙ before.along;
    }
