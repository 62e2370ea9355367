use Rattle.std.proofs.Common.{arith}
use Rattle.std.proofs.lemmas.Result.{on_ok_weaker}
use Rattle.cert_writer.proofs.Texts.{numbers_end}
use Rattle.cert_writer.proofs.text.put_numbers.Goals as goal

pub returns : goal.returns
returns c =
    on_ok_weaker c.put-2.result (numbers_end c.args.out.now.items c.loop-i.out.items c.put-2.new.out.items c.args.numbers.now c.args.letter c.loop-i.i (omega (arith, c.loop-i-test.false, c.loop-i.auto.i-end)) c.loop-i.invariant)
    c.put-2.ensures
