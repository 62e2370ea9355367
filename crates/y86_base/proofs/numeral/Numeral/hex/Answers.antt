use Rattle.std.proofs.Common.{ap, ◌∙◌, arith}
use Rattle.std.specs.Str.Parse.{digits_value}
use Rattle.y86_base.proofs.Numerals.{numeral_value, numeral_width}
use Rattle.y86_base.proofs.numeral.Numeral.hex.Goals as goal

pub returns-clause-value : goal.returns-clause-value
returns-clause-value c =
    ap (digits_value 16) c.in_base.ensures ∙ numeral_value 16 c.args.least c.args.n (omega arith) (omega arith) (omega arith)

pub returns-clause-width : goal.returns-clause-width
returns-clause-width c = rw c.in_base.ensures (numeral_width 16 c.args.least c.args.n)
