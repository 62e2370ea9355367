use Rattle.std.proofs.Common.{◌≡◌, drop, map, string_bytes}
use Rattle.y86_stages.specs.ScannedWords.{all_read, first_read, read_in}
use Rattle.y86_stages.proofs.reading.read_words.Given as goal

abbrev pub invariant-loop-word : goal.invariant-loop-word
invariant-loop-word l = all_read (read_in l.r) (map string_bytes (drop l.word-index l.words)) ≡ all_read first_read (map string_bytes l.words)
