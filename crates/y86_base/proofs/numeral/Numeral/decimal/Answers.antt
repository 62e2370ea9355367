use Rattle.std.proofs.Common.{ap, ◌∙◌, arith}
use Rattle.std.specs.Str.Parse.{digits_value}
use Rattle.y86_base.proofs.Numerals.{numeral_value}
use Rattle.y86_base.proofs.numeral.Numeral.decimal.Goals as goal

pub returns-clause-value : goal.returns-clause-value
returns-clause-value c =
    ap (digits_value 10) c.in_base.ensures ∙ numeral_value 10 1 c.args.n (omega arith) (omega arith) (omega arith)
