use Rattle.std.proofs.Common.{◌≡◌, Some, length, map, string_bytes, option_and_then}
use Rattle.y86_words.specs.Arguments.{all_added, nothing_filled, arguments}
use Rattle.y86_words.specs.Views.{filled_in}
use Rattle.y86_words.proofs.argument.found_in.Given as goal

abbrev pub invariant-words : goal.invariant-words
invariant-words l =
    option_and_then (all_added (Some nothing_filled)) (arguments (map string_bytes l.words))
    ≡ option_and_then (all_added (Some (filled_in l.found))) (arguments (map string_bytes l.left))

abbrev pub decreases-words : goal.decreases-words
decreases-words l = length l.left
