use Rattle.std.proofs.Common.{◌≡◌, ◌<◌, true, false, length, sym, ◌∙◌, arith}
use Rattle.std.proofs.lemmas.Grind.{common_steps}
use Rattle.aiger_out.specs.Form.{is_comment, is_symbol}
use Rattle.aiger_out.proofs.Tails.{read_none, read_more, read_end, read_rest}
use Rattle.aiger_out.proofs.tail.tail_fault.Goals as goal

pub loop-k-init : goal.loop-k-init
loop-k-init c = read_none c.args.h c.args.text.now

pub returns-then-is_empty-clause-fault : goal.returns-then-is_empty-clause-fault
returns-then-is_empty-clause-fault c =
    let empty : length c.loop-k.rest.now ≡ 0 = grind (arith, common_steps) in
    read_end c.args.h c.args.text.now c.loop-k.k c.loop-k.rest.now c.loop-k.invariant c.in_default.ensures.lines empty

pub returns-else-is_empty-clause-fault : goal.returns-else-is_empty-clause-fault
returns-else-is_empty-clause-fault c =
    let some : 0 < length c.loop-k.rest.now = grind (arith, common_steps) in
    read_rest c.args.h c.args.text.now c.loop-k.k c.loop-k.rest.now c.loop-k.invariant c.in_default.ensures.lines some

pub loop-k-preserved : goal.loop-k-preserved
loop-k-preserved c =
    let plain : is_comment c.in-Some.line.now ≡ false = sym c.is_comment.ensures ∙ c.if-is_comment.false in
    let named : is_symbol c.args.h c.in-Some.line.now ≡ true = sym c.is_symbol.ensures ∙ c.if-not-is_symbol.false in
    read_more c.args.h c.args.text.now c.loop-k.k c.loop-k.rest.now c.in-Some.line.now c.in-Some.behind.now c.loop-k.invariant
    c.in-Some.ensures.lines c.in-Some.ensures.rest c.in-Some.ensures.shorter plain named
