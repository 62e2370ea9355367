use Rattle.std.proofs.Common.{◌+◌, ◌*◌, take, ap, sym, ◌∙◌}
use Rattle.std.specs.Str.Parse.{digits_value}
use Rattle.std.proofs.lemmas.Int.Digits.{digits_value_more}
use Rattle.y86_base.specs.Text.{below_word}
use Rattle.y86_base.proofs.text.number_in_base.Goals as goal

pub loop-digit-preserved : goal.loop-digit-preserved
loop-digit-preserved c =
    let base = c.args.base in
    let before = digits_value base (take c.loop-digit.digit-index c.args.digits.now) in
    c.with_digit-value.ensures before c.loop-digit.invariant
    ∙ ap (λ digit. below_word (before * base + digit)) c.value_of_digit.ensures
    ∙ ap below_word (sym (digits_value_more base c.args.digits.now c.loop-digit.digit-index c.loop-digit-test.true))
