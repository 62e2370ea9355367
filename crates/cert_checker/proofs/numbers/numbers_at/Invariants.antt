use Rattle.std.proofs.Common.{◌≡◌, ◌++◌, ℕ, List, length, take, drop}
use Rattle.cert_checker.specs.Lines.{AreWords, numbers_text}
use Rattle.cert_checker.proofs.numbers.numbers_at.Given as goal

abbrev pub invariant-loop-i : goal.invariant-loop-i
invariant-loop-i l = record {
  size : length l.numbers ≡ 6;
  words : AreWords (take l.i l.numbers);
  found : (more t : List ℕ) → l.rest ≡ numbers_text more ++ t → l.bytes ≡ numbers_text (take l.i l.numbers ++ more) ++ t;
  only : (ns t : List ℕ) → length ns ≡ l.count → AreWords ns → l.bytes ≡ numbers_text ns ++ t → (take l.i l.numbers ≡ take l.i ns) × (l.rest ≡ numbers_text (drop l.i ns) ++ t);
}
