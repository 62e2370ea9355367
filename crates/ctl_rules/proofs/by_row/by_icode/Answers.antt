use Rattle.std.proofs.Common.{◌≡◌, ◌==◌, ◌||◌, ◌&&◌, not, refl, sym, ◌∙◌, ap, subst, arith}
use Rattle.nets.proofs.Truths.{begins_more}
use Rattle.ctl_picks.proofs.Inside.{inside_more}
use Rattle.y86_isa.specs.Table.{row}
use Rattle.net_fields.specs.Spelling.{spelt}
use Rattle.net_fields.specs.Icodes.{where_below}
use Rattle.net_fields.proofs.Icodes.{each_zero, each_next, where_is}
use Rattle.ctl_rules.specs.ControlGates.{IsControlGate}
use Rattle.ctl_rules.proofs.Kept.{asked_as, asked_gate, asked_more, asked_one, asked_two, spelt_code}
use Rattle.ctl_rules.proofs.by_row.by_icode.Goals as goal

pub loop-code-init : goal.loop-code-init
loop-code-init g c = record {
  begins = c.constant.ensures.extends;
  are = asked_as (asked_gate c.in_ok-all.ensures.has_truth) (λ w α cv. sym (each_zero 0 (λ k. not (spelt w c.args.icode.first c.args.icode.bits == k) || g.R.RowGates.asks c.args.rule.now k (row c.args.v k) w α cv) refl));
}

pub loop-code-preserved : goal.loop-code-preserved
loop-code-preserved g c =
    let i = inside_more c.loop-code.invariant.begins c.requires.inside in
    let j = inside_more c.at_row.ensures.extends i in
    let m = inside_more c.here.ensures.extends j in
    let asked = subst (λ r. IsControlGate c.at_row.new.b c.args.ctl.now c.in_ok-asked.asked (g.R.RowGates.asks c.args.rule.now c.loop-code.code r)) c.row.ensures.row c.in_ok-asked.ensures.has_truth in
    let each = asked_one (λ w x. not (spelt w c.args.icode.first c.args.icode.bits == c.loop-code.code) || x) c.here.ensures.extends j asked c.in_ok-each.ensures.has_truth in
    let before = asked_more (begins_more c.at_row.ensures.extends c.here.ensures.extends) i c.loop-code.invariant.are in
    record {
      begins = begins_more c.loop-code.invariant.begins (begins_more c.at_row.ensures.extends (begins_more c.here.ensures.extends c.and.ensures.extends));
      are = asked_as (asked_two (λ w x y. x && y) c.and.ensures.extends m before each c.in_ok-all-2.ensures.has_truth)
          (λ w α cv. sym (each_next c.loop-code.code (λ k. not (spelt w c.args.icode.first c.args.icode.bits == k) || g.R.RowGates.asks c.args.rule.now k (row c.args.v k) w α cv)));
    }

pub returns-clause-has_truth : goal.returns-clause-has_truth
returns-clause-has_truth g c =
    let e : c.loop-code.code ≡ 16 = omega arith in
    asked_as c.loop-code.invariant.are
    (λ w α cv. ap (λ n. where_below n (spelt w c.args.icode.first c.args.icode.bits) (λ k. g.R.RowGates.asks c.args.rule.now k (row c.args.v k) w α cv)) e
    ∙ where_is 16 (spelt w c.args.icode.first c.args.icode.bits) (λ k. g.R.RowGates.asks c.args.rule.now k (row c.args.v k) w α cv) (spelt_code w c.args.icode.first c.args.icode.bits c.requires.bits))
