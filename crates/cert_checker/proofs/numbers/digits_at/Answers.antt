use Rattle.std.proofs.Common.{◌≡◌, ◌∙◌, [], sym, ap, length, drop, arith}
use Rattle.std.proofs.lemmas.List.{take_rest, drop_all, drop_more}
use Rattle.y86_base.specs.Text.{begins, is_decimal}
use Rattle.cert_checker.proofs.Decimals.{run_more, run_stops_at}
use Rattle.cert_checker.proofs.numbers.digits_at.Goals as goal

pub returns-then-not-is_decimal : goal.returns-then-not-is_decimal
returns-then-not-is_decimal c =
    let text = c.args.bytes.now in
    let i = c.loop-i.i in
    run_stops_at text _ i c.loop-i.n c.loop-i.invariant.small c.loop-i.invariant.each c.loop-i.invariant.value
    (ap (begins is_decimal) (drop_more text i 0 c.loop-i-test.true) ∙ sym c.is_decimal.ensures ∙ c.if-not-is_decimal.true)
    (take_rest text i)

pub loop-i-preserved : goal.loop-i-preserved
loop-i-preserved c =
    let r =
    run_more c.args.bytes.now c.loop-i.i c.loop-i.n c.in-Some.more c.loop-i-test.true c.loop-i.invariant.each c.loop-i.invariant.value
    (sym c.is_decimal.ensures ∙ c.if-not-is_decimal.false) (sym c.with_digit.ensures ∙ c.in-Some.is) in
    record { small = r.2; each = r.0; value = r.1 }

pub returns : goal.returns
returns c =
    let text = c.args.bytes.now in
    let i = c.loop-i.i in
    let none : drop i text ≡ [] = drop_all i text c.loop-i-test.false in
    run_stops_at text _ i c.loop-i.n c.loop-i.invariant.small c.loop-i.invariant.each c.loop-i.invariant.value
    (ap (begins is_decimal) none)
    (take_rest text (length text) ∙ drop_all (length text) text (omega arith) ∙ sym none)
