-- Each reader of the assembler reads a token of its kind, and nothing if another kind of token is there.
use Rattle.std.proofs.Common.{◌≡◌, ◌⊎◌, inl, inr, ap, sym, subst, ◌∙◌, ℕ, ◌<◌, Bool, true, false, cond, List, [], ◌∷◌, ◌++◌, length, drop, take_while, Option, Some, None, refl, arith}
use Rattle.std.specs.Prelude.{nat_eq, not, ◌&&◌, ◌||◌, ◌==◌, codes}
use Rattle.std.specs.List.{list_all, starts_with}
use Rattle.std.specs.Str.Parse.{digits_value}
use Rattle.std.proofs.lemmas.Bool.{eqb-true, false≢true, and_parts}
use Rattle.std.proofs.lemmas.Bool.Decides.{nat_tests}
use Rattle.std.proofs.lemmas.Option.{none-some, same_Some}
use Rattle.std.proofs.Math.Seq.{drop-append_seam}
use Rattle.y86_base.proofs.Numbers.{eqb_self}
use Rattle.y86_base.specs.declared.number.Number.{Number}
use Rattle.y86_base.specs.Keyword.{keyword_at}
use Rattle.y86_base.specs.Number.{IsDecimal, decimal_at, digits_at, sign_of}
use Rattle.y86_base.specs.Registers.{register_names}
use Rattle.y86_base.specs.Text.{after_byte, begins, behind, below_word, is_blank, is_decimal, is_hex, is_name_byte}
use Rattle.y86_base.proofs.Decimals.{decimal_found, decimal_read}
use Rattle.y86_base.proofs.Runs.{after_byte_some, begins_front, behind-run, run_and_rest, run_is, run_passes, run_some, run_stops, take_while-run}
use Rattle.yas_asm.specs.declared.statement.Directive.{Directive}
use Rattle.yas_asm.specs.declared.statement.Directive.TheVariants.{Position, Align, Data}
use Rattle.yas_asm.specs.declared.statement.Width.TheVariants.{One, Two, Four, Eight}
use Rattle.yas_asm.specs.Spacing.{is_sign}
use Rattle.yas_asm.specs.Tables.{directives}
use Rattle.yas_asm.specs.Tables as tables
use Rattle.yas_asm.specs.Tokens.{is_hex_number, is_name_start, name_at, number_at}
use Rattle.yas_asm.specs.Tokens as readers
use Rattle.yas_language.specs.Tokens.{Token, word, number, register, directive, sign, directive_text, HasRow, IsHex, NoHex, IsToken, IsNext}

-- ---- the first byte of a token

-- the test that a token's first byte passes
abbrev pub starts : Token → ℕ → Bool
starts (word name) byte = is_name_start byte
starts (number n) byte = is_decimal byte || byte == 45
starts (register r) byte = byte == 37
starts (directive d) byte = byte == 46
starts (sign s) byte = (byte == s) && is_sign byte

row_start : {A : Type 0} (first : ℕ) (rows : List (List ℕ × A)) (name : List ℕ) (meaning : A) → list_all (λ row. begins (λ b. b == first) row.0) rows ≡ true
    → HasRow rows name meaning → begins (λ b. b == first) name ≡ true
row_start first [] name meaning all h = absurd h
row_start first (row ∷ rows) name meaning all (inl e) =
    ap (λ (p : List ℕ × _). begins (λ b. b == first) p.0) (sym e) ∙ (and_parts _ (list_all (λ row. begins (λ b. b == first) row.0) rows) all).0
row_start first (row ∷ rows) name meaning all (inr h) =
    row_start first rows name meaning (and_parts (begins (λ b. b == first) row.0) (list_all (λ row. begins (λ b. b == first) row.0) rows) all).1 h

begins_more : (test : ℕ → Bool) (front rest : List ℕ) → begins test front ≡ true → begins test (front ++ rest) ≡ true
begins_more test [] rest e = absurd (false≢true e)
begins_more test (x ∷ front) rest e = e

token_start : (token : Token) (text rest : List ℕ) → IsToken text token rest → begins (starts token) text ≡ true
unfolding register_names
token_start (word name) text rest t = t.0
token_start (number n) text rest (inl hex) = ap (begins (λ b. is_decimal b || b == 45)) hex.whole
token_start (number n) text rest (inr two) = ap (begins (λ b. is_decimal b || b == 45)) two.0.whole ∙ by n.negative
  where
    some : (digits : List ℕ) → 0 < length digits → list_all is_decimal digits ≡ true → begins (λ b. is_decimal b || b == 45) (digits ++ rest) ≡ true
    some [] lt all = absurd (omega arith)
    some (x ∷ digits) lt all = ap (λ b. b || (x == 45)) (and_parts (is_decimal x) (list_all is_decimal digits) all).0

    by : (negative : Bool) → begins (λ b. is_decimal b || b == 45) (sign_of negative ++ (two.0.digits ++ rest)) ≡ true
    by true = refl
    by false = some two.0.digits two.0.some two.0.each
token_start (register r) text rest t =
    ap (begins (λ b. b == 37)) t.2 ∙ begins_more (λ b. b == 37) t.0 rest (row_start 37 register_names t.0 r refl t.1)
token_start (directive Position) text rest t = ap (begins (λ b. b == 46)) t
token_start (directive Align) text rest t = ap (begins (λ b. b == 46)) t
token_start (directive (Data One)) text rest t = ap (begins (λ b. b == 46)) t
token_start (directive (Data Two)) text rest t = ap (begins (λ b. b == 46)) t
token_start (directive (Data Four)) text rest t = ap (begins (λ b. b == 46)) t
token_start (directive (Data Eight)) text rest t = ap (begins (λ b. b == 46)) t
token_start (sign s) text rest t = ap (begins (λ b. (b == s) && is_sign b)) t.1 ∙ (ap (λ b. b && is_sign s) (eqb_self s) ∙ t.0)

-- no token begins with a blank
sign_not_blank : (byte s : ℕ) → ((byte == s) && is_sign byte) ≡ true → is_blank byte ≡ false
sign_not_blank byte s e = by (byte == s) (is_sign byte) refl refl e
  where
    plain : is_sign byte ≡ true → is_blank byte ≡ false
    plain e = grind (arith, nat_tests)

    by : (a b : Bool) → (byte == s) ≡ a → is_sign byte ≡ b → (a && b) ≡ true → is_blank byte ≡ false
    by true true e f h = plain f
    by true false e f h = absurd (false≢true h)
    by false b e f h = absurd (false≢true h)

start_not_blank : (token : Token) (byte : ℕ) → starts token byte ≡ true → is_blank byte ≡ false
start_not_blank (word name) byte e = grind (arith, nat_tests)
start_not_blank (number n) byte e = grind (arith, nat_tests)
start_not_blank (register r) byte e = grind (arith, nat_tests)
start_not_blank (directive d) byte e = grind (arith, nat_tests)
start_not_blank (sign s) byte e = sign_not_blank byte s e

token_not_blank : (token : Token) (text : List ℕ) → begins (starts token) text ≡ true → begins is_blank text ≡ false
token_not_blank token [] e = refl
token_not_blank token (byte ∷ text) e = start_not_blank token byte e

-- the next token begins after the blanks
pub next_token : (text : List ℕ) (token : Token) (rest : List ℕ) → IsNext text token rest → IsToken (behind is_blank text) token rest
next_token text token rest n =
    subst (λ t. IsToken t token rest)
    (sym (behind-run is_blank n.blanks n.front n.blank (token_not_blank token n.front (token_start token n.front rest n.token_is))) ∙ ap (behind is_blank) (sym n.whole)) n.token_is

pub token_next : (text : List ℕ) (token : Token) (rest : List ℕ) → IsToken (behind is_blank text) token rest → IsNext text token rest
token_next text token rest t = record { blanks = take_while is_blank text; front = behind is_blank text; whole = run_and_rest is_blank text; blank = run_passes is_blank text; token_is = t }

pub next_start : (text : List ℕ) (token : Token) (rest : List ℕ) → IsNext text token rest → begins (starts token) (behind is_blank text) ≡ true
next_start text token rest n = token_start token (behind is_blank text) rest (next_token text token rest n)

-- ---- words

pub word_read : (text name rest : List ℕ) → IsNext text (word name) rest → readers.name text ≡ Some (name, rest)
unfolding readers.name
word_read text name rest n =
    let t = next_token text (word name) rest n in
    let parts = (run_is is_name_byte (behind is_blank text) name rest).1 t.1 in
    ap (λ b. cond {A = Option (List ℕ × List ℕ)} b (Some (take_while is_name_byte (behind is_blank text), behind is_name_byte (behind is_blank text))) None) t.0
    ∙ (λ i. Some (parts.0 i, parts.1 i))

pub word_found : (text name rest : List ℕ) → readers.name text ≡ Some (name, rest) → IsNext text (word name) rest
unfolding readers.name
word_found text name rest e = by (begins is_name_start (behind is_blank text)) refl e
  where
    by : (b : Bool) → begins is_name_start (behind is_blank text) ≡ b
        → cond {A = Option (List ℕ × List ℕ)} b (Some (take_while is_name_byte (behind is_blank text), behind is_name_byte (behind is_blank text))) None ≡ Some (name, rest)
        → IsNext text (word name) rest
    by true s e =
        let same = same_Some _ _ e in
        token_next text (word name) rest
        (s, (run_is is_name_byte (behind is_blank text) name rest).0 (ap (λ (p : List ℕ × List ℕ). p.0) same, ap (λ (p : List ℕ × List ℕ). p.1) same))
    by false s e = absurd (none-some _ e)

pub no_word : (text : List ℕ) → begins is_name_start (behind is_blank text) ≡ false → readers.name text ≡ None
unfolding readers.name
no_word text e = ap (λ b. cond {A = Option (List ℕ × List ℕ)} b (Some (take_while is_name_byte (behind is_blank text), behind is_name_byte (behind is_blank text))) None) e

-- ---- signs

pub sign_read : (s : ℕ) (text rest : List ℕ) → IsNext text (sign s) rest → readers.sign s text ≡ Some rest
unfolding readers.sign
sign_read s text rest n = ap (after_byte s) (next_token text (sign s) rest n).1 ∙ ap (λ b. cond b (Some rest) None) (eqb_self s)

pub sign_found : (s : ℕ) (text rest : List ℕ) → is_sign s ≡ true → readers.sign s text ≡ Some rest → IsNext text (sign s) rest
unfolding readers.sign
sign_found s text rest i e = token_next text (sign s) rest (i, after_byte_some s (behind is_blank text) rest e)

pub no_sign : (s : ℕ) (text : List ℕ) → begins (λ b. b == s) (behind is_blank text) ≡ false → readers.sign s text ≡ None
unfolding readers.sign
no_sign s text e = by (behind is_blank text) e
  where
    by : (t : List ℕ) → begins (λ b. b == s) t ≡ false → after_byte s t ≡ None
    by [] e = refl
    by (x ∷ t) e = ap (λ b. cond b (Some t) None) e

-- ---- fixed texts

abbrev apart : List ℕ → List ℕ → Bool
apart [] ys = false
apart (x ∷ xs) [] = false
apart (x ∷ xs) (y ∷ ys) = not (nat_eq x y) || apart xs ys

-- no text of a table begins with another
abbrev all_apart : {A : Type 0} → List (List ℕ × A) → Bool
all_apart [] = true
all_apart (row ∷ rows) = list_all (λ other. apart row.0 other.0) rows && all_apart rows

starts_own : (name rest : List ℕ) → starts_with nat_eq (name ++ rest) name ≡ true
starts_own [] rest = refl
starts_own (x ∷ name) rest = ap (λ b. b && starts_with nat_eq (name ++ rest) name) (same x) ∙ starts_own name rest
  where
    same : (s : ℕ) → nat_eq s s ≡ true
    same s = grind (arith, nat_tests)

starts_apart : (other name rest : List ℕ) → apart other name ≡ true → starts_with nat_eq (name ++ rest) other ≡ false
starts_apart [] name rest e = absurd (false≢true e)
starts_apart (x ∷ other) [] rest e = absurd (false≢true e)
starts_apart (x ∷ other) (y ∷ name) rest e = by (nat_eq x y) (starts_apart other name rest) e
  where
    by : (b : Bool) → (apart other name ≡ true → starts_with nat_eq (name ++ rest) other ≡ false) → (not b || apart other name) ≡ true → (b && starts_with nat_eq (name ++ rest) other) ≡ false
    by true h e = h e
    by false h e = refl

apart_row : {A : Type 0} (front : List ℕ) (rows : List (List ℕ × A)) (name : List ℕ) (meaning : A) → list_all (λ other. apart front other.0) rows ≡ true → HasRow rows name meaning → apart front name ≡ true
apart_row front [] name meaning all h = absurd h
apart_row front (row ∷ rows) name meaning all (inl e) =
    ap (λ (p : List ℕ × _). apart front p.0) (sym e) ∙ (and_parts (apart front row.0) (list_all (λ other. apart front other.0) rows) all).0
apart_row front (row ∷ rows) name meaning all (inr h) = apart_row front rows name meaning (and_parts (apart front row.0) (list_all (λ other. apart front other.0) rows) all).1 h

keyword_read : {A : Type 0} (rows : List (List ℕ × A)) (name rest : List ℕ) (meaning : A) → all_apart rows ≡ true → HasRow rows name meaning
    → keyword_at rows (name ++ rest) ≡ Some (meaning, rest)
unfolding keyword_at
keyword_read [] name rest meaning all h = absurd h
keyword_read {A} (row ∷ rows) name rest meaning all (inl e) =
    let own : starts_with nat_eq (name ++ rest) row.0 ≡ true = ap (λ (p : List ℕ × A). starts_with nat_eq (name ++ rest) p.0) e ∙ starts_own name rest in
    ap (λ b. cond b (Some (row.1, drop (length row.0) (name ++ rest))) (keyword_at rows (name ++ rest))) own
    ∙ ap (λ (p : List ℕ × A). Some (p.1, drop (length p.0) (name ++ rest))) e
    ∙ ap (λ (t : List ℕ). Some (meaning, t)) (drop-append_seam name rest)
keyword_read {A} (row ∷ rows) name rest meaning all (inr h) =
    let two = and_parts (list_all (λ other. apart row.0 other.0) rows) (all_apart rows) all in
    ap (λ b. cond b (Some (row.1, drop (length row.0) (name ++ rest))) (keyword_at rows (name ++ rest))) (starts_apart row.0 name rest (apart_row row.0 rows name meaning two.0 h))
    ∙ keyword_read rows name rest meaning two.1 h

record IsFoundAt {A : Type 0} (rows : List (List ℕ × A)) (text : List ℕ) (meaning : A) (rest : List ℕ) : Type 0 where
  name : List ℕ
  has : HasRow rows name meaning
  whole : text ≡ name ++ rest

split_front : (front text : List ℕ) → starts_with nat_eq text front ≡ true → text ≡ front ++ drop (length front) text
split_front [] text e = refl
split_front (c ∷ front) [] e = absurd (false≢true e)
split_front (c ∷ front) (x ∷ text) e =
    let two = and_parts (nat_eq c x) (starts_with nat_eq text front) e in
    (λ i. sym (eqb-true c x two.0) i ∷ split_front front text two.1 i)

keyword_found : {A : Type 0} (rows : List (List ℕ × A)) (text rest : List ℕ) (meaning : A) → keyword_at rows text ≡ Some (meaning, rest) → IsFoundAt rows text meaning rest
unfolding keyword_at
keyword_found [] text rest meaning e = absurd (none-some _ e)
keyword_found {A} (row ∷ rows) text rest meaning e = by (starts_with nat_eq text row.0) refl (keyword_found rows text rest meaning) e
  where
    by : (b : Bool) → starts_with nat_eq text row.0 ≡ b → (keyword_at rows text ≡ Some (meaning, rest) → IsFoundAt rows text meaning rest)
        → cond b (Some (row.1, drop (length row.0) text)) (keyword_at rows text) ≡ Some (meaning, rest) → IsFoundAt (row ∷ rows) text meaning rest
    by true s later e =
        let same = same_Some _ _ e in
        record {
          name = row.0;
          has = inl (λ i. (row.0, (same i).0));
          whole = split_front row.0 text s ∙ ap (λ (p : A × List ℕ). row.0 ++ p.1) same;
        }
    by false s later e = let found = later e in record { name = found.name; has = inr found.has; whole = found.whole }

pub register_read : (text : List ℕ) (r : ℕ) (rest : List ℕ) → IsNext text (register r) rest → tables.register text ≡ Some (r, rest)
unfolding tables.register register_names
register_read text r rest n =
    let t = next_token text (register r) rest n in
    ap (keyword_at register_names) t.2 ∙ keyword_read register_names t.0 rest r refl t.1

pub register_found : (text : List ℕ) (r : ℕ) (rest : List ℕ) → tables.register text ≡ Some (r, rest) → IsNext text (register r) rest
unfolding tables.register
register_found text r rest e = let found = keyword_found register_names (behind is_blank text) rest r e in token_next text (register r) rest (found.name, found.has, found.whole)

directive_row : (d : Directive) → HasRow directives (directive_text d) d
unfolding directives
directive_row Position = inl refl
directive_row Align = inr (inl refl)
directive_row (Data One) = inr (inr (inl refl))
directive_row (Data Two) = inr (inr (inr (inl refl)))
directive_row (Data Four) = inr (inr (inr (inr (inl refl))))
directive_row (Data Eight) = inr (inr (inr (inr (inr (inl refl)))))

own_text : (row : List ℕ × Directive) (name : List ℕ) (d : Directive) → row.0 ≡ directive_text row.1 → row ≡ (name, d) → name ≡ directive_text d
own_text row name d own e = ap (λ (p : List ℕ × Directive). p.0) (sym e) ∙ own ∙ ap (λ (p : List ℕ × Directive). directive_text p.1) e

row_directive : (name : List ℕ) (d : Directive) → HasRow directives name d → name ≡ directive_text d
unfolding directives
row_directive name d (inl e) = own_text _ name d refl e
row_directive name d (inr (inl e)) = own_text _ name d refl e
row_directive name d (inr (inr (inl e))) = own_text _ name d refl e
row_directive name d (inr (inr (inr (inl e)))) = own_text _ name d refl e
row_directive name d (inr (inr (inr (inr (inl e))))) = own_text _ name d refl e
row_directive name d (inr (inr (inr (inr (inr (inl e)))))) = own_text _ name d refl e
row_directive name d (inr (inr (inr (inr (inr (inr h)))))) = absurd h

pub directive_read : (text : List ℕ) (d : Directive) (rest : List ℕ) → IsNext text (directive d) rest → tables.directive text ≡ Some (d, rest)
unfolding tables.directive directives
directive_read text d rest n =
    ap (keyword_at directives) (next_token text (directive d) rest n) ∙ keyword_read directives (directive_text d) rest d refl (directive_row d)

pub directive_found : (text : List ℕ) (d : Directive) (rest : List ℕ) → tables.directive text ≡ Some (d, rest) → IsNext text (directive d) rest
unfolding tables.directive
directive_found text d rest e =
    let found = keyword_found directives (behind is_blank text) rest d e in
    token_next text (directive d) rest (found.whole ∙ ap (λ t. t ++ rest) (row_directive found.name d found.has))

-- if a text doesn't begin with a `.`, it doesn't begin with a directive
pub no_directive : (text : List ℕ) → begins (λ b. b == 46) (behind is_blank text) ≡ false → tables.directive text ≡ None
unfolding tables.directive
no_directive text e = by (keyword_at directives (behind is_blank text)) refl
  where
    by : (o : Option (Directive × List ℕ)) → keyword_at directives (behind is_blank text) ≡ o → o ≡ None
    by None s = refl
    by (Some d) s =
        let found = keyword_found directives (behind is_blank text) d.1 d.0 s in
        absurd (false≢true (sym e ∙ token_start (directive d.0) (behind is_blank text) d.1 (found.whole ∙ ap (λ t. t ++ d.1) (row_directive found.name d.0 found.has))))

-- ---- numbers

abbrev paired : Number → List ℕ → Option (Number × List ℕ)
paired n text = Some (n, text)

pair_is : (n : Number) (negative : Bool) (magnitude : Option ℕ) (rest text : List ℕ) → n.negative ≡ negative → n.magnitude ≡ magnitude → text ≡ rest
    → paired (record { negative = negative; magnitude = magnitude }) text ≡ Some (n, rest)
pair_is n negative magnitude rest text e f g = rw (← e, ← f, g) refl

hex_read : (text : List ℕ) (n : Number) (rest : List ℕ) → IsHex text n rest → number_at text ≡ Some (n, rest)
hex_read text n rest hex =
    ap number_at hex.whole
    ∙ (ap (λ b. cond b (Some (digits_at false 16 is_hex (hex.digits ++ rest))) (decimal_at (48 ∷ 120 ∷ (hex.digits ++ rest)))) (begins_front is_hex hex.digits rest hex.some hex.each)
    ∙ pair_is n false _ rest (behind is_hex (hex.digits ++ rest)) hex.positive
    (hex.magnitude ∙ ap (λ d. below_word (digits_value 16 d)) (sym (take_while-run is_hex hex.digits rest hex.each hex.longest)))
    (behind-run is_hex hex.digits rest hex.each hex.longest))

no_hex_number : (text : List ℕ) → NoHex text → is_hex_number text ≡ false
no_hex_number text none = by (starts_with nat_eq text (codes "0x")) refl
  where
    by : (b : Bool) → starts_with nat_eq text (codes "0x") ≡ b → (b && begins is_hex (drop 2 text)) ≡ false
    by true e = none (drop 2 text) (split_front (codes "0x") text e)
    by false e = refl

pub number_read : (text : List ℕ) (n : Number) (rest : List ℕ) → IsNext text (number n) rest → readers.number text ≡ Some (n, rest)
unfolding readers.number
number_read text n rest next = by (next_token text (number n) rest next)
  where
    by : IsHex (behind is_blank text) n rest ⊎ (IsDecimal (behind is_blank text) n rest × NoHex (behind is_blank text)) → number_at (behind is_blank text) ≡ Some (n, rest)
    by (inl hex) = hex_read (behind is_blank text) n rest hex
    by (inr two) =
        ap (λ b. cond b (Some (digits_at false 16 is_hex (drop 2 (behind is_blank text)))) (decimal_at (behind is_blank text))) (no_hex_number (behind is_blank text) two.1)
        ∙ decimal_read (behind is_blank text) n rest two.0

hex_found : (text : List ℕ) (n : Number) (rest : List ℕ) → is_hex_number text ≡ true → digits_at false 16 is_hex (drop 2 text) ≡ (n, rest) → IsHex text n rest
hex_found text n rest h same =
    let two = and_parts (starts_with nat_eq text (codes "0x")) (begins is_hex (drop 2 text)) h in
    let rest_is : behind is_hex (drop 2 text) ≡ rest = ap (λ (p : Number × List ℕ). p.1) same in
    record {
      digits = take_while is_hex (drop 2 text);
      whole = split_front (codes "0x") text two.0 ∙ ap (λ t. 48 ∷ 120 ∷ t) (run_and_rest is_hex (drop 2 text) ∙ ap (λ r. take_while is_hex (drop 2 text) ++ r) rest_is);
      each = run_passes is_hex (drop 2 text);
      some = run_some is_hex (drop 2 text) two.1;
      longest = ap (begins is_hex) (sym rest_is) ∙ run_stops is_hex (drop 2 text);
      positive = ap (λ (p : Number × List ℕ). p.0.negative) (sym same);
      magnitude = ap (λ (p : Number × List ℕ). p.0.magnitude) (sym same);
    }

pub number_found : (text : List ℕ) (n : Number) (rest : List ℕ) → readers.number text ≡ Some (n, rest) → IsNext text (number n) rest
unfolding readers.number
number_found text n rest e = by (is_hex_number (behind is_blank text)) refl e
  where
    by : (b : Bool) → is_hex_number (behind is_blank text) ≡ b
        → cond b (Some (digits_at false 16 is_hex (drop 2 (behind is_blank text)))) (decimal_at (behind is_blank text)) ≡ Some (n, rest) → IsNext text (number n) rest
    by true h e = token_next text (number n) rest (inl (hex_found (behind is_blank text) n rest h (same_Some _ _ e)))
    by false h e =
        token_next text (number n) rest (inr (decimal_found (behind is_blank text) n rest e, λ after whole. sym (ap is_hex_number whole) ∙ h))

-- ---- the next token is of one kind

-- if a token comes next, and no first byte of it passes the test, the text after the blanks doesn't begin with a byte
-- that passes
pub excluded : (test : ℕ → Bool) (token : Token) → ((byte : ℕ) → starts token byte ≡ true → test byte ≡ false) → (text rest : List ℕ) → IsNext text token rest
    → begins test (behind is_blank text) ≡ false
excluded test token other text rest n = by (behind is_blank text) (next_start text token rest n)
  where
    by : (t : List ℕ) → begins (starts token) t ≡ true → begins test t ≡ false
    by [] e = refl
    by (x ∷ t) e = other x e

pub no_number : (text : List ℕ) → begins (λ b. is_decimal b || b == 45) (behind is_blank text) ≡ false → readers.number text ≡ None
no_number text e = by (readers.number text) refl
  where
    by : (o : Option (Number × List ℕ)) → readers.number text ≡ o → o ≡ None
    by None s = refl
    by (Some x) s = absurd (false≢true (sym e ∙ next_start text (number x.0) x.1 (number_found text x.0 x.1 s)))
