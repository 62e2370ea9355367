-- The tokens of a text that begins with the text of a token.
use Rattle.std.proofs.Common.{◌≡◌, ◌≤◌, ◌<◌, ◌-◌, ◌^◌, ◌%◌, ap, sym, ◌∙◌, ℕ, Bool, true, false, cond, List, [], ◌∷◌, ◌++◌, length, drop, map, refl, arith, nat_lt, Some, None, take_while, nat_eq, codes, not-suc-le-zero, lit≤, ltb-false, mod-eq_of_lt}
use Rattle.std.specs.Prelude.{nat_le, ◌==◌, ◌&&◌, ◌||◌, unwrap_or}
use Rattle.std.specs.List.{list_all, starts_with}
use Rattle.std.specs.Str.Parse.{digits_value}
use Rattle.std.proofs.lemmas.Bool.Decides.{nat_tests}
use Rattle.std.proofs.lemmas.Bool.{or_parts, and_parts, false≢true}
use Rattle.y86_base.specs.declared.number.Number.{Number as Written}
use Rattle.y86_base.specs.Text.{begins, behind, below_word, is_blank, is_decimal, is_letter, is_line_feed, is_name_byte}
use Rattle.y86_base.specs.Keyword.{keyword_at}
use Rattle.y86_base.specs.Number.{IsDecimal, decimal_at, word_within}
use Rattle.y86_base.specs.Numeral.{numeral, signed_decimal}
use Rattle.y86_base.proofs.Runs.{behind-run, take_while-run}
use Rattle.y86_base.proofs.Decimals.{decimal_read, below_word_small}
use Rattle.y86_base.proofs.Numerals.{numeral_digits, numeral_value, word_has_room, all_decimal}
use Rattle.hcl_tree.specs.declared.tree.CmpOp.{CmpOp}
use Rattle.hcl_tree.specs.declared.tree.CmpOp.TheVariants.{Eq, Ne, Lt, Le, Gt, Ge}
use Rattle.hcl_read.specs.declared.tokens.Token.{Token}
use Rattle.hcl_read.specs.declared.tokens.Token.TheVariants.{Number, Quoted, Assign, Semicolon, OrOr, AndAnd, Bang, Compare, OpenParen, CloseParen, OpenBrace, CloseBrace, OpenBracket, CloseBracket, Comma, Colon}
use Rattle.hcl_read.specs.Tokens.{is_quoted, skipped, word, in_range, number_or, symbol_or_stray, is_closed, token, tokens}
use Rattle.hcl_print.specs.Print.{operator}
use Rattle.hcl_read.proofs.Items.{listed, items_ended, items_first, items_listed}

-- this text doesn't continue a word or a number
abbrev pub Ends : List ℕ → Type 0
Ends text = begins is_name_byte text ≡ false

-- the first token of a text
pub tokens_step : (byte : ℕ) (bytes : List ℕ) → skipped false (byte ∷ bytes) ≡ byte ∷ bytes → tokens (byte ∷ bytes) ≡ (token byte bytes).0 ∷ tokens (token byte bytes).1
tokens_step byte bytes e = ap (map (λ (item : Token × List ℕ). item.0)) (items_first (byte ∷ bytes) byte bytes e)

passed : (byte : ℕ) (bytes : List ℕ) → skipped false (byte ∷ bytes) ≡ skipped false bytes → tokens (byte ∷ bytes) ≡ tokens bytes
passed byte bytes e = ap (map (λ (item : Token × List ℕ). item.0)) (items_listed (byte ∷ bytes) ∙ ap listed e ∙ sym (items_listed bytes))

pub space : (bytes : List ℕ) → tokens (32 ∷ bytes) ≡ tokens bytes
unfolding skipped
space bytes = passed 32 bytes refl

pub line_feed : (bytes : List ℕ) → tokens (10 ∷ bytes) ≡ tokens bytes
unfolding skipped
line_feed bytes = passed 10 bytes refl

-- a symbol of one byte
symbol_step : (byte : ℕ) (bytes : List ℕ) (t : Token) → skipped false (byte ∷ bytes) ≡ byte ∷ bytes → token byte bytes ≡ (t, bytes) → tokens (byte ∷ bytes) ≡ t ∷ tokens bytes
symbol_step byte bytes t e f = tokens_step byte bytes e ∙ ap (λ (x : Token × List ℕ). x.0 ∷ tokens x.1) f

pub open_paren : (bytes : List ℕ) → tokens (40 ∷ bytes) ≡ OpenParen ∷ tokens bytes
unfolding skipped token decimal_at keyword_at
open_paren bytes = symbol_step 40 bytes OpenParen refl refl

pub close_paren : (bytes : List ℕ) → tokens (41 ∷ bytes) ≡ CloseParen ∷ tokens bytes
unfolding skipped token decimal_at keyword_at
close_paren bytes = symbol_step 41 bytes CloseParen refl refl

pub open_brace : (bytes : List ℕ) → tokens (123 ∷ bytes) ≡ OpenBrace ∷ tokens bytes
unfolding skipped token decimal_at keyword_at
open_brace bytes = symbol_step 123 bytes OpenBrace refl refl

pub close_brace : (bytes : List ℕ) → tokens (125 ∷ bytes) ≡ CloseBrace ∷ tokens bytes
unfolding skipped token decimal_at keyword_at
close_brace bytes = symbol_step 125 bytes CloseBrace refl refl

pub open_bracket : (bytes : List ℕ) → tokens (91 ∷ bytes) ≡ OpenBracket ∷ tokens bytes
unfolding skipped token decimal_at keyword_at
open_bracket bytes = symbol_step 91 bytes OpenBracket refl refl

pub close_bracket : (bytes : List ℕ) → tokens (93 ∷ bytes) ≡ CloseBracket ∷ tokens bytes
unfolding skipped token decimal_at keyword_at
close_bracket bytes = symbol_step 93 bytes CloseBracket refl refl

pub semicolon : (bytes : List ℕ) → tokens (59 ∷ bytes) ≡ Semicolon ∷ tokens bytes
unfolding skipped token decimal_at keyword_at
semicolon bytes = symbol_step 59 bytes Semicolon refl refl

pub comma : (bytes : List ℕ) → tokens (44 ∷ bytes) ≡ Comma ∷ tokens bytes
unfolding skipped token decimal_at keyword_at
comma bytes = symbol_step 44 bytes Comma refl refl

pub colon : (bytes : List ℕ) → tokens (58 ∷ bytes) ≡ Colon ∷ tokens bytes
unfolding skipped token decimal_at keyword_at
colon bytes = symbol_step 58 bytes Colon refl refl

-- `=` of a definition, with a blank after it
pub assign : (bytes : List ℕ) → tokens (61 ∷ 32 ∷ bytes) ≡ Assign ∷ tokens bytes
unfolding skipped token decimal_at keyword_at
assign bytes = symbol_step 61 (32 ∷ bytes) Assign refl refl ∙ ap (λ ts. Assign ∷ ts) (space bytes)

not_equals : (byte : ℕ) (bytes : List ℕ) → (byte == 61) ≡ false → starts_with nat_eq (33 ∷ byte ∷ bytes) (codes "!=") ≡ false
not_equals byte bytes e = ap (λ b. b && true) (turned byte e)
  where
    turned : (byte : ℕ) → (byte == 61) ≡ false → (61 == byte) ≡ false
    turned byte e = grind (arith, nat_tests)

pub bang : (byte : ℕ) (bytes : List ℕ) → (byte == 61) ≡ false → tokens (33 ∷ byte ∷ bytes) ≡ Bang ∷ tokens (byte ∷ bytes)
unfolding skipped token decimal_at keyword_at
bang byte bytes e = symbol_step 33 (byte ∷ bytes) Bang refl (ap (λ b. unwrap_or (cond b (Some (Compare Ne, bytes)) None) (Bang, byte ∷ bytes)) (not_equals byte bytes e))

-- a token with the text after it
step_to : (byte : ℕ) (bytes : List ℕ) (t : Token) (rest : List ℕ) → skipped false (byte ∷ bytes) ≡ byte ∷ bytes → token byte bytes ≡ (t, rest) → tokens (byte ∷ bytes) ≡ t ∷ tokens rest
step_to byte bytes t rest e f = tokens_step byte bytes e ∙ ap (λ (x : Token × List ℕ). x.0 ∷ tokens x.1) f

pub or_or : (rest : List ℕ) → tokens (codes " || " ++ rest) ≡ OrOr ∷ tokens rest
unfolding skipped token decimal_at keyword_at
or_or rest = space _ ∙ step_to 124 (124 ∷ 32 ∷ rest) OrOr (32 ∷ rest) refl refl ∙ ap (λ ts. OrOr ∷ ts) (space rest)

pub and_and : (rest : List ℕ) → tokens (codes " && " ++ rest) ≡ AndAnd ∷ tokens rest
unfolding skipped token decimal_at keyword_at
and_and rest = space _ ∙ step_to 38 (38 ∷ 32 ∷ rest) AndAnd (32 ∷ rest) refl refl ∙ ap (λ ts. AndAnd ∷ ts) (space rest)

pub compare : (op : CmpOp) (rest : List ℕ) → tokens (operator op ++ rest) ≡ Compare op ∷ tokens rest
unfolding skipped token decimal_at keyword_at
compare Eq rest = space _ ∙ step_to 61 (61 ∷ 32 ∷ rest) (Compare Eq) (32 ∷ rest) refl refl ∙ ap (λ ts. Compare Eq ∷ ts) (space rest)
compare Ne rest = space _ ∙ step_to 33 (61 ∷ 32 ∷ rest) (Compare Ne) (32 ∷ rest) refl refl ∙ ap (λ ts. Compare Ne ∷ ts) (space rest)
compare Lt rest = space _ ∙ step_to 60 (32 ∷ rest) (Compare Lt) (32 ∷ rest) refl refl ∙ ap (λ ts. Compare Lt ∷ ts) (space rest)
compare Le rest = space _ ∙ step_to 60 (61 ∷ 32 ∷ rest) (Compare Le) (32 ∷ rest) refl refl ∙ ap (λ ts. Compare Le ∷ ts) (space rest)
compare Gt rest = space _ ∙ step_to 62 (32 ∷ rest) (Compare Gt) (32 ∷ rest) refl refl ∙ ap (λ ts. Compare Gt ∷ ts) (space rest)
compare Ge rest = space _ ∙ step_to 62 (61 ∷ 32 ∷ rest) (Compare Ge) (32 ∷ rest) refl refl ∙ ap (λ ts. Compare Ge ∷ ts) (space rest)

-- a byte that is no blank, no line feed and no `#` is not skipped
kept : (byte : ℕ) (bytes : List ℕ) → (byte == 35) ≡ false → (is_blank byte || is_line_feed byte) ≡ false → skipped false (byte ∷ bytes) ≡ byte ∷ bytes
unfolding skipped
kept byte bytes e f =
    ap (λ b. cond b (skipped true bytes) (cond (is_blank byte || is_line_feed byte) (skipped false bytes) (byte ∷ bytes))) e
    ∙ ap (λ b. cond b (skipped false bytes) (byte ∷ bytes)) f

letter_shows : (byte : ℕ) → is_letter byte ≡ true → ((byte == 35) ≡ false) × ((is_blank byte || is_line_feed byte) ≡ false)
letter_shows byte e = (grind (arith, nat_tests), grind (arith, nat_tests))

-- a word that begins with a letter
pub word_step : (name rest : List ℕ) → begins is_letter name ≡ true → list_all is_name_byte name ≡ true → Ends rest → tokens (name ++ rest) ≡ word name ∷ tokens rest
unfolding token
word_step [] rest e all ends = absurd (false≢true e)
word_step (byte ∷ bytes) rest e all ends =
    let shows = letter_shows byte e in
    step_to byte (bytes ++ rest) (word (byte ∷ bytes)) rest (kept byte (bytes ++ rest) shows.0 shows.1)
    (ap (λ b. cond b (word (take_while is_name_byte (byte ∷ bytes ++ rest)), behind is_name_byte (byte ∷ bytes ++ rest)) (other (bytes ++ rest))) e
    ∙ ap (λ n. (word n, behind is_name_byte (byte ∷ bytes ++ rest))) (take_while-run is_name_byte (byte ∷ bytes) rest all ends)
    ∙ ap (λ r. (word (byte ∷ bytes), r)) (behind-run is_name_byte (byte ∷ bytes) rest all ends))
  where
    other : List ℕ → Token × List ℕ
    other xs =
        cond (byte == 39 && is_closed xs) (Quoted (take_while is_quoted xs), drop 1 (behind is_quoted xs)) (number_or (decimal_at (byte ∷ xs)) (symbol_or_stray byte xs))

-- a quoted text
pub quoted_step : (text rest : List ℕ) → list_all is_quoted text ≡ true → tokens (39 ∷ text ++ 39 ∷ rest) ≡ Quoted text ∷ tokens rest
unfolding skipped token
quoted_step text rest all =
    let end : behind is_quoted (text ++ 39 ∷ rest) ≡ 39 ∷ rest = behind-run is_quoted text (39 ∷ rest) all refl in
    step_to 39 (text ++ 39 ∷ rest) (Quoted text) rest refl
    (ap (λ r. cond (begins (λ byte. byte == 39) r) (Quoted (take_while is_quoted (text ++ 39 ∷ rest)), drop 1 r) (number_or (decimal_at (39 ∷ text ++ 39 ∷ rest)) (symbol_or_stray 39 (text ++ 39 ∷ rest)))) end
    ∙ ap (λ t. (Quoted t, rest)) (take_while-run is_quoted text (39 ∷ rest) all refl))

-- a number
number_step : (byte : ℕ) (bytes : List ℕ) (written : Written) (rest : List ℕ) (n : ℕ) → is_letter byte ≡ false → (byte == 39) ≡ false → (byte == 35) ≡ false → (is_blank byte || is_line_feed byte) ≡ false
    → decimal_at (byte ∷ bytes) ≡ Some (written, rest) → word_within (2 ^ 63) (2 ^ 63 - 1) written ≡ Some n → tokens (byte ∷ bytes) ≡ Number n ∷ tokens rest
unfolding token
number_step byte bytes written rest n l q h b d w =
    step_to byte bytes (Number n) rest (kept byte bytes h b)
    (ap (λ x. cond x (word (take_while is_name_byte (byte ∷ bytes)), behind is_name_byte (byte ∷ bytes))
    (cond (byte == 39 && is_closed bytes) (Quoted (take_while is_quoted bytes), drop 1 (behind is_quoted bytes)) (number_or (decimal_at (byte ∷ bytes)) (symbol_or_stray byte bytes)))) l
    ∙ ap (λ x. cond (x && is_closed bytes) (Quoted (take_while is_quoted bytes), drop 1 (behind is_quoted bytes)) (number_or (decimal_at (byte ∷ bytes)) (symbol_or_stray byte bytes))) q
    ∙ ap (λ o. number_or o (symbol_or_stray byte bytes)) d
    ∙ ap (λ o. (in_range o, rest)) w)

digit_shows : (byte : ℕ) → is_decimal byte ≡ true
    → (is_letter byte ≡ false) × ((byte == 39) ≡ false) × ((byte == 35) ≡ false) × ((is_blank byte || is_line_feed byte) ≡ false)
digit_shows byte e = (grind (arith, nat_tests), grind (arith, nat_tests), grind (arith, nat_tests), grind (arith, nat_tests))

no_more_digits : (rest : List ℕ) → Ends rest → begins is_decimal rest ≡ false
no_more_digits [] e = refl
no_more_digits (byte ∷ bytes) e = (or_parts (is_letter byte || byte == 95) (is_decimal byte) e).1

positive : (m : ℕ) → m < 2 ^ 63 → word_within (2 ^ 63) (2 ^ 63 - 1) (record { negative = false; magnitude = Some m }) ≡ Some m
unfolding word_within
positive m h = ap (λ b. cond b (Some m) None) (small m h)
  where
    small : (m : ℕ) → m < 2 ^ 63 → nat_le m (2 ^ 63 - 1) ≡ true
    small m h = grind (arith, nat_tests)

negative : (m : ℕ) → m ≤ 2 ^ 63 → word_within (2 ^ 63) (2 ^ 63 - 1) (record { negative = true; magnitude = Some m }) ≡ Some ((2 ^ 64 - m) % 2 ^ 64)
unfolding word_within
negative m h = ap (λ b. cond b (Some ((2 ^ 64 - m) % 2 ^ 64)) None) (small m h)
  where
    small : (m : ℕ) → m ≤ 2 ^ 63 → nat_le m (2 ^ 63) ≡ true
    small m h = grind (arith, nat_tests)

plain_step : (digits rest : List ℕ) (m : ℕ) → 0 < length digits → list_all is_decimal digits ≡ true → digits_value 10 digits ≡ m → m < 2 ^ 63 → Ends rest → tokens (digits ++ rest) ≡ Number m ∷ tokens rest
plain_step [] rest m some all value small ends = absurd (not-suc-le-zero some)
plain_step (byte ∷ bytes) rest m some all value small ends =
    let shows = digit_shows byte (and_parts (is_decimal byte) (list_all is_decimal bytes) all).0 in
    let written : Written = record { negative = false; magnitude = Some m } in
    let d : IsDecimal (byte ∷ bytes ++ rest) written rest =
    record { digits = byte ∷ bytes; whole = refl; each = all; some = some; longest = no_more_digits rest ends; value = sym (below_word_small m (wider m small)) ∙ ap below_word (sym value) } in
    number_step byte (bytes ++ rest) written rest m shows.0 shows.1 shows.2 shows.3 (decimal_read (byte ∷ bytes ++ rest) written rest d) (positive m small)
  where
    wider : (m : ℕ) → m < 2 ^ 63 → m < 2 ^ 64
    wider m h = omega arith

minus_step : (digits rest : List ℕ) (m n : ℕ) → 0 < length digits → list_all is_decimal digits ≡ true → digits_value 10 digits ≡ m → m ≤ 2 ^ 63 → (2 ^ 64 - m) % 2 ^ 64 ≡ n → Ends rest
    → tokens (45 ∷ digits ++ rest) ≡ Number n ∷ tokens rest
minus_step digits rest m n some all value small same ends =
    let written : Written = record { negative = true; magnitude = Some m } in
    let d : IsDecimal (45 ∷ digits ++ rest) written rest =
    record { digits = digits; whole = refl; each = all; some = some; longest = no_more_digits rest ends; value = sym (below_word_small m (wider m small)) ∙ ap below_word (sym value) } in
    number_step 45 (digits ++ rest) written rest n refl refl refl refl (decimal_read (45 ∷ digits ++ rest) written rest d) (negative m small ∙ ap (λ x. Some x) same)
  where
    wider : (m : ℕ) → m ≤ 2 ^ 63 → m < 2 ^ 64
    wider m h = omega arith

pub signed_step : (n : ℕ) (rest : List ℕ) → n < 2 ^ 64 → Ends rest → tokens (signed_decimal n ++ rest) ≡ Number n ∷ tokens rest
unfolding signed_decimal
signed_step n rest h ends = go (nat_lt n (2 ^ 63)) refl
  where
    low : (n : ℕ) → nat_lt n (2 ^ 63) ≡ true → n < 2 ^ 63
    low n e = grind (arith, nat_tests)

    high : (n : ℕ) → nat_lt n (2 ^ 63) ≡ false → n < 2 ^ 64 → (2 ^ 64 - n ≤ 2 ^ 63) × (2 ^ 64 - n < 2 ^ 64) × ((2 ^ 64 - (2 ^ 64 - n)) % 2 ^ 64 ≡ n)
    high n e h =
        let over : 2 ^ 63 ≤ n = ltb-false n (2 ^ 63) e in
        let back : 2 ^ 64 - (2 ^ 64 - n) ≡ n = omega arith in
        (omega arith, omega arith, ap (λ x. x % 2 ^ 64) back ∙ mod-eq_of_lt h)

    go : (b : Bool) → nat_lt n (2 ^ 63) ≡ b → tokens (cond b (numeral 10 1 n) (codes "-" ++ numeral 10 1 (2 ^ 64 - n)) ++ rest) ≡ Number n ∷ tokens rest
    go true e =
        let room = word_has_room 10 n (lit≤ tt) h in
        let is = numeral_digits 10 1 n (lit≤ tt) (lit≤ tt) room in
        plain_step (numeral 10 1 n) rest n is.0 (all_decimal (numeral 10 1 n) is.1) (numeral_value 10 1 n (lit≤ tt) (lit≤ tt) room) (low n e) ends
    go false e =
        let s = high n e h in
        let room = word_has_room 10 (2 ^ 64 - n) (lit≤ tt) s.1 in
        let is = numeral_digits 10 1 (2 ^ 64 - n) (lit≤ tt) (lit≤ tt) room in
        minus_step (numeral 10 1 (2 ^ 64 - n)) rest (2 ^ 64 - n) n is.0 (all_decimal (numeral 10 1 (2 ^ 64 - n)) is.1) (numeral_value 10 1 (2 ^ 64 - n) (lit≤ tt) (lit≤ tt) room) s.0 s.2 ends

-- the first byte of a number is no `=`
pub signed_begins : (n : ℕ) → n < 2 ^ 64 → (x : ℕ) × (xs : List ℕ) × (signed_decimal n ≡ x ∷ xs) × ((x == 61) ≡ false)
unfolding signed_decimal
signed_begins n h = go (nat_lt n (2 ^ 63))
  where
    no_sign : (byte : ℕ) → is_decimal byte ≡ true → (byte == 61) ≡ false
    no_sign byte e = grind (arith, nat_tests)

    first : (digits : List ℕ) → 0 < length digits → list_all is_decimal digits ≡ true → (x : ℕ) × (xs : List ℕ) × (digits ≡ x ∷ xs) × ((x == 61) ≡ false)
    first [] some all = absurd (not-suc-le-zero some)
    first (byte ∷ bytes) some all = (byte, bytes, refl, no_sign byte (and_parts (is_decimal byte) (list_all is_decimal bytes) all).0)

    go : (b : Bool) → (x : ℕ) × (xs : List ℕ) × (cond b (numeral 10 1 n) (codes "-" ++ numeral 10 1 (2 ^ 64 - n)) ≡ x ∷ xs) × ((x == 61) ≡ false)
    go true =
        let is = numeral_digits 10 1 n (lit≤ tt) (lit≤ tt) (word_has_room 10 n (lit≤ tt) h) in
        first (numeral 10 1 n) is.0 (all_decimal (numeral 10 1 n) is.1)
    go false = (45, numeral 10 1 (2 ^ 64 - n), refl, refl)

-- an empty text has no tokens
pub nothing_left : tokens [] ≡ []
unfolding skipped
nothing_left = ap (map (λ (item : Token × List ℕ). item.0)) (items_ended [] refl)
