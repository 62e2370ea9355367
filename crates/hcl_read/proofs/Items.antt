-- The tokens of a text, one after another.
use Rattle.std.proofs.Common.{◌≡◌, ℕ, zero, suc, ◌+◌, ◌<◌, ◌≤◌, ap, sym, ◌∙◌, refl, Bool, true, false, cond, List, [], ◌∷◌, ◌++◌, length, take, drop, arith, append-nil, append_assoc, length-append, le_refl}
use Rattle.std.specs.Prelude.{◌&&◌, ◌||◌, ◌==◌, not, Option, Some, None, unwrap_or, take_while, nat_eq}
use Rattle.std.specs.List.{prefix_len, starts_with}
use Rattle.std.proofs.lemmas.List.{take-append-drop}
use Rattle.y86_base.specs.Text.{behind, is_blank, is_letter, is_line_feed, is_name_byte}
use Rattle.y86_base.specs.Keyword.{keyword_at}
use Rattle.y86_base.specs.Number.{decimal_at, sign_of}
use Rattle.y86_base.specs.declared.number.Number.{Number as Written}
use Rattle.y86_base.proofs.Decimals.{decimal_found}
use Rattle.hcl_read.specs.declared.tokens.Token.{Token}
use Rattle.hcl_read.specs.declared.tokens.Token.TheVariants.{Quoted}
use Rattle.hcl_read.specs.Tokens.{is_quoted, is_closed, skipped, long_symbols, short_symbols, stray, word, number_or, symbol_or_stray, token, items_in, items}

-- a text ends with another
abbrev pub Ends : List ℕ → List ℕ → Type 0
Ends text rest = (front : List ℕ) × (text ≡ front ++ rest)

pub ends_whole : (text : List ℕ) → Ends text text
ends_whole text = ([], refl)

pub ends_drop : (n : ℕ) (text : List ℕ) → Ends text (drop n text)
ends_drop n text = (take n text, sym (take-append-drop n text))

pub ends_more : (byte : ℕ) (text rest : List ℕ) → Ends text rest → Ends (byte ∷ text) rest
ends_more byte text rest e = (byte ∷ e.0, ap (λ xs. byte ∷ xs) e.1)

pub ends_through : (text mid rest : List ℕ) → Ends text mid → Ends mid rest → Ends text rest
ends_through text mid rest a b = (a.0 ++ b.0, a.1 ∙ ap (λ xs. a.0 ++ xs) b.1 ∙ sym (append_assoc a.0 b.0 rest))

pub ends_nothing : (text : List ℕ) → Ends text []
ends_nothing text = (text, sym (append-nil text))

pub ends_shorter : (text rest : List ℕ) → Ends text rest → length rest ≤ length text
ends_shorter text rest e = let n = ap length e.1 ∙ length-append e.0 rest in omega arith

-- blanks, line feeds and comments
pub skipped_ends : (comment : Bool) (text : List ℕ) → Ends text (skipped comment text)
unfolding skipped
skipped_ends comment [] = ends_whole []
skipped_ends true (byte ∷ bytes) = ends_more byte bytes _ (skipped_ends (not (is_line_feed byte)) bytes)
skipped_ends false (byte ∷ bytes) = at (byte == 35) (is_blank byte || is_line_feed byte) (skipped_ends true bytes) (skipped_ends false bytes)
  where
    at : (hash gap : Bool) → Ends bytes (skipped true bytes) → Ends bytes (skipped false bytes)
        → Ends (byte ∷ bytes) (cond hash (skipped true bytes) (cond gap (skipped false bytes) (byte ∷ bytes)))
    at true gap c s = ends_more byte bytes _ c
    at false true c s = ends_more byte bytes _ s
    at false false c s = ends_whole (byte ∷ bytes)

-- a symbol from a table without empty rows
abbrev Begins : List (List ℕ × Token) → Type 0
Begins [] = Unit {0}
Begins (row ∷ rows) = (0 < length row.0) × Begins rows

drop_some : (n byte : ℕ) (bytes : List ℕ) → 0 < n → Ends bytes (drop n (byte ∷ bytes))
drop_some zero byte bytes h = let no : ⊥ = omega arith in absurd no
drop_some (suc n) byte bytes h = ends_drop n bytes

symbol_ends : (rows : List (List ℕ × Token)) (byte : ℕ) (bytes : List ℕ) (other : Token × List ℕ) → Begins rows → Ends bytes other.1
    → Ends bytes (unwrap_or (keyword_at rows (byte ∷ bytes)) other).1
unfolding keyword_at
symbol_ends [] byte bytes other some h = h
symbol_ends (row ∷ rows) byte bytes other some h =
    at (starts_with nat_eq (byte ∷ bytes) row.0) (symbol_ends rows byte bytes other some.1 h)
  where
    at : (here : Bool) → Ends bytes (unwrap_or (keyword_at rows (byte ∷ bytes)) other).1
        → Ends bytes (unwrap_or (cond here (Some (row.1, drop (length row.0) (byte ∷ bytes))) (keyword_at rows (byte ∷ bytes))) other).1
    at true h = drop_some (length row.0) byte bytes some.0
    at false h = h

symbol_or_stray_ends : (byte : ℕ) (bytes : List ℕ) → Ends bytes (symbol_or_stray byte bytes).1
symbol_or_stray_ends byte bytes =
    symbol_ends long_symbols byte bytes (unwrap_or (keyword_at short_symbols (byte ∷ bytes)) (stray byte)) (omega arith)
    (symbol_ends short_symbols byte bytes (stray byte) (omega arith) (ends_nothing bytes))

-- a number
signed_ends : (negative : Bool) (byte : ℕ) (bytes digits rest : List ℕ) → 0 < length digits → byte ∷ bytes ≡ sign_of negative ++ (digits ++ rest) → Ends bytes rest
signed_ends true byte bytes digits rest some e = (digits, ap (drop 1) e)
signed_ends false byte bytes [] rest some e = let no : ⊥ = omega arith in absurd no
signed_ends false byte bytes (digit ∷ digits) rest some e = (digits, ap (drop 1) e)

number_ends : (byte : ℕ) (bytes : List ℕ) (other : Token × List ℕ) → Ends bytes other.1 → Ends bytes (number_or (decimal_at (byte ∷ bytes)) other).1
number_ends byte bytes other h = at (decimal_at (byte ∷ bytes)) refl
  where
    at : (found : Option (Written × List ℕ)) → decimal_at (byte ∷ bytes) ≡ found → Ends bytes (number_or found other).1
    at None e = h
    at (Some x) e = let d = decimal_found (byte ∷ bytes) x.0 x.1 e in signed_ends x.0.negative byte bytes d.digits x.1 d.some d.whole

-- a word
word_ends : (byte : ℕ) (bytes : List ℕ) → is_letter byte ≡ true → Ends bytes (behind is_name_byte (byte ∷ bytes))
word_ends byte bytes letter =
    let name : is_name_byte byte ≡ true = rw letter refl in
    let one : 1 + prefix_len is_name_byte bytes ≡ suc (prefix_len is_name_byte bytes) = omega arith in
    rw (name, one) (ends_drop (prefix_len is_name_byte bytes) bytes)

quoted_ends : (bytes : List ℕ) → Ends bytes (drop 1 (behind is_quoted bytes))
quoted_ends bytes = ends_through bytes (behind is_quoted bytes) _ (ends_drop (prefix_len is_quoted bytes) bytes) (ends_drop 1 (behind is_quoted bytes))

-- what follows a token is at least one byte shorter
pub token_ends : (byte : ℕ) (bytes : List ℕ) → Ends bytes (token byte bytes).1
unfolding token
token_ends byte bytes = at (is_letter byte) refl (byte == 39 && is_closed bytes)
  where
    at : (letter : Bool) → is_letter byte ≡ letter → (quote : Bool) →
        Ends bytes (cond letter (word (take_while is_name_byte (byte ∷ bytes)), behind is_name_byte (byte ∷ bytes))
        (cond quote (Quoted (take_while is_quoted bytes), drop 1 (behind is_quoted bytes))
        (number_or (decimal_at (byte ∷ bytes)) (symbol_or_stray byte bytes)))).1
    at true e quote = word_ends byte bytes e
    at false e true = quoted_ends bytes
    at false e false = number_ends byte bytes (symbol_or_stray byte bytes) (symbol_or_stray_ends byte bytes)

-- the tokens of a text without a gap in front
abbrev pub listed : List ℕ → List (Token × List ℕ)
listed text = items_in (length text) text

pub next : ℕ → List ℕ → List ℕ
next byte bytes = skipped false (token byte bytes).1

pub next_ends : (byte : ℕ) (bytes : List ℕ) → Ends bytes (next byte bytes)
unfolding next
next_ends byte bytes = ends_through bytes (token byte bytes).1 _ (token_ends byte bytes) (skipped_ends false (token byte bytes).1)

enough : (a b : ℕ) (text : List ℕ) → length text ≤ a → length text ≤ b → items_in a text ≡ items_in b text
unfolding items_in
enough zero zero text h k = refl
enough zero (suc b) [] h k = refl
enough zero (suc b) (byte ∷ bytes) h k = let no : ⊥ = omega arith in absurd no
enough (suc a) zero [] h k = refl
enough (suc a) zero (byte ∷ bytes) h k = let no : ⊥ = omega arith in absurd no
enough (suc a) (suc b) [] h k = refl
enough (suc a) (suc b) (byte ∷ bytes) h k =
    let s = ends_shorter bytes (skipped false (token byte bytes).1) (ends_through bytes (token byte bytes).1 _ (token_ends byte bytes) (skipped_ends false (token byte bytes).1)) in
    ap (λ rest. ((token byte bytes).0, byte ∷ bytes) ∷ rest)
    (enough a b (skipped false (token byte bytes).1) (omega arith) (omega arith))

pub listed_none : listed [] ≡ []
unfolding items_in
listed_none = refl

pub listed_more : (byte : ℕ) (bytes : List ℕ) → listed (byte ∷ bytes) ≡ ((token byte bytes).0, byte ∷ bytes) ∷ listed (skipped false (token byte bytes).1)
unfolding items_in next
listed_more byte bytes =
    ap (λ rest. ((token byte bytes).0, byte ∷ bytes) ∷ rest)
    (enough (length bytes) (length (next byte bytes)) (next byte bytes) (ends_shorter bytes (next byte bytes) (next_ends byte bytes)) (le_refl _))

pub items_listed : (text : List ℕ) → items text ≡ listed (skipped false text)
unfolding items
items_listed text = enough (length text) (length (skipped false text)) (skipped false text) (ends_shorter text (skipped false text) (skipped_ends false text)) (le_refl _)

pub items_ended : (text : List ℕ) → skipped false text ≡ [] → items text ≡ []
items_ended text e = items_listed text ∙ ap listed e ∙ listed_none

pub items_first : (text : List ℕ) (byte : ℕ) (bytes : List ℕ) → skipped false text ≡ byte ∷ bytes →
    items text ≡ ((token byte bytes).0, byte ∷ bytes) ∷ items (token byte bytes).1
items_first text byte bytes e =
    items_listed text ∙ ap listed e ∙ listed_more byte bytes
    ∙ ap (λ rest. ((token byte bytes).0, byte ∷ bytes) ∷ rest) (sym (items_listed (token byte bytes).1))
