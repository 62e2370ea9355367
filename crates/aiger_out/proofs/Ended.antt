-- The first line of a text, if a line feed ends it.
use Rattle.std.proofs.lemmas.List.{length-drop, drop-drop, length-take-le}
use Rattle.std.proofs.Common.{◌≡◌, ℕ, ◌+◌, ◌<◌, ◌≤◌, Bool, true, false, cond, not, List, [], ◌∷◌, length, take, drop, refl, sym, length-append, ap, ◌∙◌, arith}
use Rattle.std.specs.List.{position_or_len}
use Rattle.std.proofs.Math.Numerals.{one-add}
use Rattle.y86_base.specs.Text.{is_line_feed, with_line_feeds}
use Rattle.aiger_out.specs.Lines.{ended, grown, unended}

step : (ends : Bool) (byte : ℕ) (rest : List ℕ) (n : ℕ) → ended rest ≡ take n rest ∷ ended (drop 1 (drop n rest)) →
    cond ends ([] ∷ ended rest) (grown byte (ended rest))
    ≡ take (cond (not ends) (1 + n) 0) (byte ∷ rest) ∷ ended (drop 1 (drop (cond (not ends) (1 + n) 0) (byte ∷ rest)))
step true byte rest n e = refl
step false byte rest n e = rw (one-add, e) refl

by_byte : (ends : Bool) (byte : ℕ) (rest : List ℕ) → cond (not ends) (1 + position_or_len is_line_feed rest) 0 < length (byte ∷ rest)
    → (position_or_len is_line_feed rest < length rest → ended rest ≡ take (position_or_len is_line_feed rest) rest ∷ ended (drop 1 (drop (position_or_len is_line_feed rest) rest)))
    → cond ends ([] ∷ ended rest) (grown byte (ended rest))
    ≡ take (cond (not ends) (1 + position_or_len is_line_feed rest) 0) (byte ∷ rest) ∷ ended (drop 1 (drop (cond (not ends) (1 + position_or_len is_line_feed rest) 0) (byte ∷ rest)))
by_byte true byte rest h more = refl
by_byte false byte rest h more = step false byte rest (position_or_len is_line_feed rest) (more (omega (arith, h)))

pub ended-first : (bytes : List ℕ) → position_or_len is_line_feed bytes < length bytes →
    ended bytes ≡ take (position_or_len is_line_feed bytes) bytes ∷ ended (drop 1 (drop (position_or_len is_line_feed bytes) bytes))
ended-first [] h = absurd (omega arith)
ended-first (byte ∷ rest) h = by_byte (is_line_feed byte) byte rest h (ended-first rest)

no_byte : (ends : Bool) (byte : ℕ) (rest : List ℕ) → length (byte ∷ rest) ≤ cond (not ends) (1 + position_or_len is_line_feed rest) 0
    → (length rest ≤ position_or_len is_line_feed rest → ended rest ≡ []) → cond ends ([] ∷ ended rest) (grown byte (ended rest)) ≡ []
no_byte true byte rest h more = absurd (omega (arith, h))
no_byte false byte rest h more = ap (grown byte) (more (omega (arith, h)))

pub ended-none : (bytes : List ℕ) → length bytes ≤ position_or_len is_line_feed bytes → ended bytes ≡ []
ended-none [] h = refl
ended-none (byte ∷ rest) h = no_byte (is_line_feed byte) byte rest h (ended-none rest)

pub ended_first : (bytes front rest : List ℕ) → front ≡ take (position_or_len is_line_feed bytes) bytes → rest ≡ drop (position_or_len is_line_feed bytes) bytes →
    0 < length rest → ended bytes ≡ front ∷ ended (drop 1 rest)
ended_first bytes front rest e f some =
    rw (e, f) (ended-first bytes (omega (arith, some, ap length f, length-drop (position_or_len is_line_feed bytes) bytes)))

pub ended_none : (bytes front rest : List ℕ) → front ≡ take (position_or_len is_line_feed bytes) bytes → rest ≡ drop (position_or_len is_line_feed bytes) bytes →
    length rest ≡ 0 → ended bytes ≡ []
ended_none bytes front rest e f none = ended-none bytes (omega (arith, none, ap length f, length-drop (position_or_len is_line_feed bytes) bytes))

-- what follows the last line feed is the same for the text after the first line
pub unended_first : (bytes front rest : List ℕ) → front ≡ take (position_or_len is_line_feed bytes) bytes → rest ≡ drop (position_or_len is_line_feed bytes) bytes →
    0 < length rest → unended bytes ≡ unended (drop 1 rest)
unended_first bytes front rest e f some =
    let n : ℕ = position_or_len is_line_feed bytes in
    let within : n < length bytes = omega (arith, some, ap length f, length-drop n bytes) in
    let size : length front ≡ n = ap length e ∙ length-take-le n bytes (omega arith) in
    let after : List ℕ = with_line_feeds (ended (drop 1 rest)) in
    let count : length (with_line_feeds (ended bytes)) ≡ n + (1 + length after) =
    ap (λ (xs : List (List ℕ)). length (with_line_feeds xs)) (ended_first bytes front rest e f some)
    ∙ length-append front (10 ∷ after) ∙ omega (arith, size) in
    ap (λ (k : ℕ). drop k bytes) count
    ∙ sym (drop-drop (1 + length after) n bytes)
    ∙ ap (drop (1 + length after)) (sym f)
    ∙ sym (drop-drop (length after) 1 rest)
