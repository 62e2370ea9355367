-- The words, numbers and quoted texts among the tokens of a text can be written again.
use Rattle.std.proofs.Common.{◌≡◌, ◌<◌, ◌-◌, ◌^◌, ◌%◌, ap, sym, subst, ◌∙◌, ℕ, zero, suc, Bool, true, false, cond, List, [], ◌∷◌, ◌++◌, length, drop, map, refl, arith, Option, Some, None, take_while, nat_eq, not-suc-le-zero, mod-lt, lit<}
use Rattle.std.specs.Prelude.{nat_le, ◌==◌, ◌&&◌, unwrap_or}
use Rattle.std.specs.List.{list_all, starts_with}
use Rattle.std.specs.Str.{bytes_eq}
use Rattle.std.proofs.lemmas.Bool.Decides.{nat_tests}
use Rattle.std.proofs.lemmas.Option.{none-some, same_Some}
use Rattle.y86_base.specs.declared.number.Number.{Number as Written}
use Rattle.y86_base.specs.Text.{begins, behind, is_letter, is_name_byte}
use Rattle.y86_base.specs.Keyword.{keyword_at, meaning_of}
use Rattle.y86_base.specs.Number.{decimal_at, word_of_magnitude, word_within}
use Rattle.y86_base.proofs.Runs.{run_and_rest, run_passes, run_some}
use Rattle.hcl_read.specs.declared.tokens.Token.{Token}
use Rattle.hcl_read.specs.declared.tokens.Token.TheVariants.{Ident, Number, Quoted, Bad, Odd}
use Rattle.hcl_read.specs.Tokens.{is_quoted, is_visible, skipped, keywords, long_symbols, short_symbols, word, stray, in_range, number_or, symbol_or_stray, is_closed, token, items_in, items, tokens}

abbrev pub Good : Token → Type 0
Good (Ident name) = (begins is_letter name ≡ true) × (list_all is_name_byte name ≡ true) × (word name ≡ Ident name)
Good (Quoted text) = list_all is_quoted text ≡ true
Good (Number n) = n < 2 ^ 64
Good t = Unit {0}

abbrev pub AllGood : List Token → Type 0
AllGood [] = Unit {0}
AllGood (t ∷ ts) = Good t × AllGood ts

abbrev RowsGood : List (List ℕ × Token) → Type 0
RowsGood [] = Unit {0}
RowsGood (row ∷ rows) = Good row.1 × RowsGood rows

good_meaning : (rows : List (List ℕ × Token)) (name : List ℕ) (t : Token) → RowsGood rows → meaning_of rows name ≡ Some t → Good t
unfolding meaning_of
good_meaning [] name t good e = absurd (none-some t e)
good_meaning (row ∷ rows) name t good e = go (bytes_eq name row.0) (λ h. good_meaning rows name t good.1 h) e
  where
    go : (b : Bool) → (meaning_of rows name ≡ Some t → Good t) → cond b (Some row.1) (meaning_of rows name) ≡ Some t → Good t
    go true later e = subst Good (same_Some row.1 t e) good.0
    go false later e = later e

good_keyword : (rows : List (List ℕ × Token)) (text : List ℕ) (x : Token × List ℕ) → RowsGood rows → keyword_at rows text ≡ Some x → Good x.0
unfolding keyword_at
good_keyword [] text x good e = absurd (none-some x e)
good_keyword (row ∷ rows) text x good e = go (starts_with nat_eq text row.0) (λ h. good_keyword rows text x good.1 h) e
  where
    go : (b : Bool) → (keyword_at rows text ≡ Some x → Good x.0) → cond b (Some (row.1, drop (length row.0) text)) (keyword_at rows text) ≡ Some x → Good x.0
    go true later e = subst (λ (y : Token × List ℕ). Good y.0) (same_Some (row.1, drop (length row.0) text) x e) good.0
    go false later e = later e

good_or : (o : Option (Token × List ℕ)) (other : Token × List ℕ) → ((x : Token × List ℕ) → o ≡ Some x → Good x.0) → Good other.0 → Good (unwrap_or o other).0
good_or None other h g = g
good_or (Some x) other h g = h x refl

good_stray : (byte : ℕ) → Good (stray byte).0
good_stray byte = go (is_visible byte)
  where
    go : (b : Bool) → Good (cond b Odd Bad)
    go true = tt
    go false = tt

good_word : (name : List ℕ) → begins is_letter name ≡ true → list_all is_name_byte name ≡ true → Good (word name)
good_word name first all = go (meaning_of keywords name) refl
  where
    go : (o : Option Token) → meaning_of keywords name ≡ o → Good (unwrap_or o (Ident name))
    go None e = (first, all, ap (λ o. unwrap_or o (Ident name)) e)
    go (Some t) e = good_meaning keywords name t (tt, (tt, (tt, (tt, (tt, (tt, (tt, (tt, tt)))))))) e

first_of_run : (byte : ℕ) (bytes front rest : List ℕ) → byte ∷ bytes ≡ front ++ rest → 0 < length front → is_letter byte ≡ true → begins is_letter front ≡ true
first_of_run byte bytes [] rest e some h = absurd (not-suc-le-zero some)
first_of_run byte bytes (x ∷ xs) rest e some h = sym (ap (begins is_letter) e) ∙ h

good_number : (written : Written) → Good (in_range (word_within (2 ^ 63) (2 ^ 63 - 1) written))
unfolding word_within
good_number written = go written.negative written.magnitude
  where
    small : (n : ℕ) → nat_le n (2 ^ 63 - 1) ≡ true → n < 2 ^ 64
    small n e = grind (arith, nat_tests)

    minus : (b : Bool) (n : ℕ) → Good (in_range (cond b (Some ((2 ^ 64 - n) % 2 ^ 64)) None))
    minus true n = mod-lt (2 ^ 64 - n) (lit< tt)
    minus false n = tt

    plus : (n : ℕ) (b : Bool) → nat_le n (2 ^ 63 - 1) ≡ b → Good (in_range (cond b (Some n) None))
    plus n true e = small n e
    plus n false e = tt

    go : (negative : Bool) (magnitude : Option ℕ) → Good (in_range (word_of_magnitude (2 ^ 63) (2 ^ 63 - 1) negative magnitude))
    go negative None = tt
    go true (Some n) = minus (nat_le n (2 ^ 63)) n
    go false (Some n) = plus n (nat_le n (2 ^ 63 - 1)) refl

good_token : (byte : ℕ) (bytes : List ℕ) → Good (token byte bytes).0
unfolding token
good_token byte bytes = go (is_letter byte) refl (byte == 39 && is_closed bytes)
  where
    name_byte : (b : ℕ) → is_letter b ≡ true → is_name_byte b ≡ true
    name_byte b h = rw h refl

    symbols : Good (symbol_or_stray byte bytes).0
    symbols = good_or (keyword_at long_symbols (byte ∷ bytes)) _ (λ x e. good_keyword long_symbols (byte ∷ bytes) x (tt, (tt, (tt, (tt, (tt, (tt, tt)))))) e)
        (good_or (keyword_at short_symbols (byte ∷ bytes)) _ (λ x e. good_keyword short_symbols (byte ∷ bytes) x (tt, (tt, (tt, (tt, (tt, (tt, (tt, (tt, (tt, (tt, (tt, (tt, (tt, tt))))))))))))) e) (good_stray byte))

    numbered : (o : Option (Written × List ℕ)) → Good (number_or o (symbol_or_stray byte bytes)).0
    numbered None = symbols
    numbered (Some x) = good_number x.0

    go : (l : Bool) → is_letter byte ≡ l → (q : Bool)
        → Good (cond l (word (take_while is_name_byte (byte ∷ bytes)), behind is_name_byte (byte ∷ bytes))
        (cond q (Quoted (take_while is_quoted bytes), drop 1 (behind is_quoted bytes)) (number_or (decimal_at (byte ∷ bytes)) (symbol_or_stray byte bytes)))).0
    go true e q =
        good_word (take_while is_name_byte (byte ∷ bytes))
        (first_of_run byte bytes (take_while is_name_byte (byte ∷ bytes)) (behind is_name_byte (byte ∷ bytes)) (run_and_rest is_name_byte (byte ∷ bytes)) (run_some is_name_byte (byte ∷ bytes) (name_byte byte e)) e)
        (run_passes is_name_byte (byte ∷ bytes))
    go false e true = run_passes is_quoted bytes
    go false e false = numbered (decimal_at (byte ∷ bytes))

good_items : (most : ℕ) (text : List ℕ) → AllGood (map (λ (item : Token × List ℕ). item.0) (items_in most text))
unfolding items_in
good_items zero text = tt
good_items (suc most) [] = tt
good_items (suc most) (byte ∷ bytes) = (good_token byte bytes, good_items most (skipped false (token byte bytes).1))

pub good_tokens : (text : List ℕ) → AllGood (tokens text)
unfolding items
good_tokens text = good_items (length text) (skipped false text)
