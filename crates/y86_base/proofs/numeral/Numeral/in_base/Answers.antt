use Rattle.y86_base.specs.Numeral.{numeral}
use Rattle.y86_base.proofs.Digits.{padded}
use Rattle.y86_base.proofs.numeral.Numeral.in_base.Goals as goal

pub returns : goal.returns
unfolding numeral
returns c =
    let w = c.write_digits-at in
    rw c.min-start.ensures (padded w.new.bytes _ 64 w.result c.args.least w.ensures.within w.array_long c.requires.room w.ensures.written w.ensures.before)
