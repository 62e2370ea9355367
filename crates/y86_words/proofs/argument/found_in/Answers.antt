use Rattle.std.proofs.Common.{map, string_bytes, ap, sym, ◌∙◌, Some, option_and_then}
use Rattle.y86_words.specs.Arguments.{all_added, arguments}
use Rattle.y86_words.specs.Views.{argument_in, filled_in}
use Rattle.y86_words.proofs.Arguments.{refused, no_argument}
use Rattle.y86_words.proofs.argument.found_in.Goals as goal

pub returns-in_default-added : goal.returns-in_default-added
returns-in_default-added c =
    sym (c.words.invariant
    ∙ ap (λ words. option_and_then (all_added (Some (filled_in c.words.found))) (arguments (map string_bytes words))) c.in-Some.ensures.cases.0
    ∙ ap (λ found. option_and_then (all_added (Some (filled_in c.words.found))) found) (rw c.as_str.ensures.value at c.in-Some-first_argument.ensures.first)
    ∙ refused (filled_in c.words.found) (argument_in c.in-Some-first_argument.argument) (arguments (map string_bytes c.in-Some-first_argument.rest.now)) (sym c.in_default-added.ensures))

pub returns : goal.returns
returns c =
    sym (c.words.invariant ∙ ap (λ found. option_and_then (all_added (Some (filled_in c.words.found))) found) (no_argument c.words.left.now c.in_default.ensures.cases))
