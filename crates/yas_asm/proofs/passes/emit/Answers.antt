use Rattle.std.proofs.Common.{arith, refl}
use Rattle.yas_asm.proofs.PassLemmas.{on_way_begin, on_way_more, on_way_fault, on_way_end, passed_fits, from_fits}
use Rattle.yas_asm.proofs.passes.emit.Goals as goal

pub loop-text-init : goal.loop-text-init
loop-text-init c = on_way_begin _ _ _ _ _ _ _ c.new-known.ensures c.new-used.ensures c.new-listing.ensures.items

pub fault-requires : goal.fault-requires
fault-requires c = omega (arith, passed_fits c.loop-text.passed c.args.source.now c.loop-text.rest.now c.in-Some.text.now c.in-Some.behind.now c.in-Some.ensures.lines c.loop-text.invariant.counted)

pub fault-requires-then-is_err : goal.fault-requires-then-is_err
fault-requires-then-is_err c = omega (arith, passed_fits c.loop-text.passed c.args.source.now c.loop-text.rest.now c.in-Some.text.now c.in-Some.behind.now c.in-Some.ensures.lines c.loop-text.invariant.counted)

pub overflow_add-to : goal.overflow_add-to
overflow_add-to c = omega (arith, from_fits c.loop-text.from c.args.source.now c.loop-text.rest.now c.in-Some.text.now c.in-Some.behind.now c.in-Some.ensures.lines c.loop-text.invariant.reached)

pub overflow_add-from : goal.overflow_add-from
overflow_add-from c = omega (arith, from_fits c.loop-text.from c.args.source.now c.loop-text.rest.now c.in-Some.text.now c.in-Some.behind.now c.in-Some.ensures.lines c.loop-text.invariant.reached)

pub overflow_add-passed : goal.overflow_add-passed
overflow_add-passed c = omega (arith, passed_fits c.loop-text.passed c.args.source.now c.loop-text.rest.now c.in-Some.text.now c.in-Some.behind.now c.in-Some.ensures.lines c.loop-text.invariant.counted)

pub returns-in-Err : goal.returns-in-Err
returns-in-Err c =
    on_way_fault _ _ _ _ _ _ _ _ _ _ _ _ c.in-Some.behind.now _ _ _ c.loop-text.invariant c.in-Some.ensures.lines c.read_line-read.ensures.value c.in-Err.ensures.fault c.fault.ensures.why c.fault.ensures.line

pub loop-text-preserved : goal.loop-text-preserved
loop-text-preserved c =
    on_way_more _ _ _ _ _ _ _ _ _ _ _ _ _ _ _ _ c.in-Some.behind.now _ _ c.loop-text.invariant c.in-Some.ensures.lines c.read_line-read.ensures.value c.in-Ok.ensures.fault c.in-Ok.ensures.known c.in-Ok.ensures.used c.listed.ensures (rw c.push.ensures.items (rw c.is_err.ensures.negation (rw c.if-is_err.false refl))) c.address_after-address.ensures

pub returns : goal.returns
returns c = on_way_end _ _ _ _ _ _ _ _ _ _ _ c.loop-text.invariant c.in_default.ensures.lines
