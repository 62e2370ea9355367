-- The first line of a text and the lines after it.
use Rattle.std.proofs.Common.{◌≡◌, ◌⊎◌, inl, inr, ℕ, ◌+◌, ◌<◌, Bool, true, false, cond, not, All, List, [], ◌∷◌, ◌++◌, length, take, drop, append_assoc, refl, sym, ap, ◌∙◌, arith}
use Rattle.std.proofs.lemmas.List.{append-nil}
use Rattle.std.proofs.lemmas.List.Elements.{All-nil, All-cons, All-head, All-tail}
use borrow.Author.Tests.{eqb-true}
use Rattle.std.specs.List.{position_or_len, onto_first}
use Rattle.std.proofs.Math.Numerals.{one-add}
use Rattle.y86_base.specs.Text.{HasNoLineFeed, is_line_feed, lines, with_line_feeds}

abbrev IsInLine : ℕ → Type 0
IsInLine byte = is_line_feed byte ≡ false

-- one byte in front of text whose first line has n bytes
step : (ends : Bool) (byte : ℕ) (rest : List ℕ) (n : ℕ) → lines rest ≡ take n rest ∷ lines (drop 1 (drop n rest)) →
    cond ends ([] ∷ lines rest) (onto_first byte (lines rest))
    ≡ take (cond (not ends) (1 + n) 0) (byte ∷ rest) ∷ lines (drop 1 (drop (cond (not ends) (1 + n) 0) (byte ∷ rest)))
step true byte rest n e = refl
step false byte rest n e = rw (one-add, e) refl

last_byte : (ends : Bool) (byte : ℕ) →
    cond ends ([] ∷ []) (onto_first byte []) ≡ take (cond (not ends) 1 0) (byte ∷ []) ∷ lines (drop 1 (drop (cond (not ends) 1 0) (byte ∷ [])))
last_byte true byte = refl
last_byte false byte = refl

-- text that is not empty consists of its first line and the lines of what follows
pub lines-first : (bytes : List ℕ) → 0 < length bytes →
    lines bytes ≡ take (position_or_len is_line_feed bytes) bytes ∷ lines (drop 1 (drop (position_or_len is_line_feed bytes) bytes))
lines-first [] h = absurd (omega arith)
lines-first (byte ∷ []) h = last_byte (is_line_feed byte) byte
lines-first (byte ∷ next ∷ bytes) h =
    step (is_line_feed byte) byte (next ∷ bytes) (position_or_len is_line_feed (next ∷ bytes)) (lines-first (next ∷ bytes) (omega arith))

pub lines_of_first : (bytes front rest : List ℕ) → 0 < length bytes →
    front ≡ take (position_or_len is_line_feed bytes) bytes → rest ≡ drop (position_or_len is_line_feed bytes) bytes →
    lines bytes ≡ front ∷ lines (drop 1 rest)
lines_of_first bytes front rest h e f = rw (e, f) (lines-first bytes h)

nothing : (rest : List ℕ) → length rest ≡ 0 → lines (drop 1 rest) ≡ lines rest
nothing [] e = refl
nothing (byte ∷ rest) e = absurd (omega arith)

pub lines_of_last : (bytes front rest : List ℕ) → 0 < length bytes →
    front ≡ take (position_or_len is_line_feed bytes) bytes → rest ≡ drop (position_or_len is_line_feed bytes) bytes →
    length rest ≡ 0 → lines bytes ≡ front ∷ lines rest
lines_of_last bytes front rest h e f none = rw (← nothing rest none) (lines_of_first bytes front rest h e f)

-- a byte that is no line feed goes onto the first line
lines-cons_no : (byte : ℕ) (bytes : List ℕ) → is_line_feed byte ≡ false → lines (byte ∷ bytes) ≡ onto_first byte (lines bytes)
lines-cons_no byte bytes e = ap (λ ends. cond ends ([] ∷ lines bytes) (onto_first byte (lines bytes))) e

pub lines-ended : (line rest : List ℕ) → HasNoLineFeed line → lines (line ++ 10 ∷ rest) ≡ line ∷ lines rest
lines-ended [] rest h = refl
lines-ended (byte ∷ line) rest h =
    lines-cons_no byte (line ++ 10 ∷ rest) (All-head IsInLine byte line h) ∙ ap (onto_first byte) (lines-ended line rest (All-tail IsInLine byte line h))

pub lines-last : (line : List ℕ) → HasNoLineFeed line → 0 < length line → lines line ≡ line ∷ []
lines-last [] h some = absurd (omega arith)
lines-last (byte ∷ []) h some = lines-cons_no byte [] (All-head IsInLine byte [] h)
lines-last (byte ∷ next ∷ line) h some =
    lines-cons_no byte (next ∷ line) (All-head IsInLine byte (next ∷ line) h)
    ∙ ap (onto_first byte) (lines-last (next ∷ line) (All-tail IsInLine byte (next ∷ line) h) (omega arith))

lines-with : (some : List (List ℕ)) (rest : List ℕ) → All HasNoLineFeed some → lines (with_line_feeds some ++ rest) ≡ some ++ lines rest
lines-with [] rest h = refl
lines-with (line ∷ some) rest h =
    ap lines (append_assoc line (10 ∷ with_line_feeds some) rest)
    ∙ lines-ended line (with_line_feeds some ++ rest) (All-head HasNoLineFeed line some h)
    ∙ ap (λ ls. line ∷ ls) (lines-with some rest (All-tail HasNoLineFeed line some h))

pub lines-with_line_feeds : (some : List (List ℕ)) → All HasNoLineFeed some → lines (with_line_feeds some) ≡ some
lines-with_line_feeds some h =
    ap lines (sym (append-nil (with_line_feeds some))) ∙ lines-with some [] h ∙ append-nil some

pub lines-with_last : (some : List (List ℕ)) (last : List ℕ) → All HasNoLineFeed some → HasNoLineFeed last →
    0 < length last → lines (with_line_feeds some ++ last) ≡ some ++ last ∷ []
lines-with_last some last h k nonempty = lines-with some last h ∙ ap (λ ls. some ++ ls) (lines-last last k nonempty)

onto_first-no : (byte : ℕ) (parts : List (List ℕ)) → is_line_feed byte ≡ false → All HasNoLineFeed parts → All HasNoLineFeed (onto_first byte parts)
onto_first-no byte [] e h = All-cons HasNoLineFeed (byte ∷ []) [] (All-cons IsInLine byte [] e (All-nil IsInLine)) (All-nil HasNoLineFeed)
onto_first-no byte (part ∷ parts) e h =
    All-cons HasNoLineFeed (byte ∷ part) parts (All-cons IsInLine byte part e (All-head HasNoLineFeed part parts h)) (All-tail HasNoLineFeed part parts h)

step-no : (ends : Bool) (byte : ℕ) (parts : List (List ℕ)) → is_line_feed byte ≡ ends → All HasNoLineFeed parts →
    All HasNoLineFeed (cond ends ([] ∷ parts) (onto_first byte parts))
step-no true byte parts e h = All-cons HasNoLineFeed [] parts (All-nil IsInLine) h
step-no false byte parts e h = onto_first-no byte parts e h

pub HasNoLineFeed-lines : (text : List ℕ) → All HasNoLineFeed (lines text)
HasNoLineFeed-lines [] = All-nil HasNoLineFeed
HasNoLineFeed-lines (byte ∷ bytes) = step-no (is_line_feed byte) byte (lines bytes) refl (HasNoLineFeed-lines bytes)

-- lines with a line feed after each give the text, perhaps with one more line feed at its end
abbrev Rejoins : List (List ℕ) → List ℕ → Type 0
Rejoins parts text = (with_line_feeds parts ≡ text) ⊎ (with_line_feeds parts ≡ text ++ 10 ∷ [])

onto-rejoins : (byte : ℕ) (parts : List (List ℕ)) (text : List ℕ) → Rejoins parts text → Rejoins (onto_first byte parts) (byte ∷ text)
onto-rejoins byte [] [] h = inr refl
onto-rejoins byte [] (next ∷ text) (inl e) = absurd (cc)
onto-rejoins byte [] (next ∷ text) (inr e) = absurd (cc)
onto-rejoins byte (part ∷ parts) text (inl e) = inl (ap (λ rest. byte ∷ rest) e)
onto-rejoins byte (part ∷ parts) text (inr e) = inr (ap (λ rest. byte ∷ rest) e)

behind-rejoins : (byte : ℕ) (parts : List (List ℕ)) (text : List ℕ) → byte ≡ 10 → Rejoins parts text → Rejoins ([] ∷ parts) (byte ∷ text)
behind-rejoins byte parts text is (inl e) = inl (cc)
behind-rejoins byte parts text is (inr e) = inr (cc)

step-rejoins : (ends : Bool) (byte : ℕ) (parts : List (List ℕ)) (text : List ℕ) → is_line_feed byte ≡ ends → Rejoins parts text →
    Rejoins (cond ends ([] ∷ parts) (onto_first byte parts)) (byte ∷ text)
step-rejoins true byte parts text e h = behind-rejoins byte parts text (eqb-true byte 10 e) h
step-rejoins false byte parts text e h = onto-rejoins byte parts text h

pub lines-rejoin : (text : List ℕ) → (with_line_feeds (lines text) ≡ text) ⊎ (with_line_feeds (lines text) ≡ text ++ 10 ∷ [])
lines-rejoin [] = inl refl
lines-rejoin (byte ∷ bytes) = step-rejoins (is_line_feed byte) byte (lines bytes) bytes refl (lines-rejoin bytes)
