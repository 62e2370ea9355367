use Rattle.std.proofs.Common.{◌≡◌, true, None, is_some, string_bytes, option_and_then, sym}
use Rattle.y86_words.specs.Arguments.{is_option, takes}
use Rattle.y86_words.specs.Numbers.{number_that}
use Rattle.y86_words.proofs.Arguments.{switch_refused}
use Rattle.y86_words.proofs.argument.first_argument.Goals as goal

pub returns-in-None-clause-first : goal.returns-in-None-clause-first
returns-in-None-clause-first c =
    let option : is_option c.args.word.now ≡ true = cc (c.as_bytes.ensures.value, c.starts_with.ensures.value, c.if-not-starts_with.false) in
    let number : is_some (takes c.in-Some.switch) ≡ true = cc (c.takes_number.ensures, c.if-not-takes_number.false) in
    let none : option_and_then (λ passes. number_that passes (string_bytes c.in-Some-split_first.value.now)) (takes c.in-Some.switch) ≡ None =
    rw c.as_str.ensures.value at (rw c.as_bytes-2.ensures.value at (sym c.in-None.ensures)) in
    rw c.in-Some-split_first.ensures.cases.0 (switch_refused _ _ _ c.in-Some.switch option (sym c.in-Some.ensures) number none)
