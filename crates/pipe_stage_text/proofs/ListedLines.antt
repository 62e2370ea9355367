-- Which lines list a text: well-formed lines with an address, bytes, and a text after the `|`.
use Rattle.std.proofs.Common.{◌≡◌, ℕ, ◌<◌, ◌^◌, Bool, true, false, List, [], ◌∷◌, ◌++◌, length, Option, None, Some, refl, sym, ap, ◌∙◌, subst, if◌then◌else◌, cond, take_while, arith}
use Rattle.std.specs.Prelude.{nat_eq, nat_lt, option_and_then, unwrap_or}
use Rattle.std.specs.List.{list_all}
use Rattle.std.specs.Str.Parse.{digits_value}
use Rattle.std.proofs.lemmas.Bool.Decides.{nat_tests}
use Rattle.std.proofs.lemmas.Option.{none-some, same_Some}
use Rattle.std.proofs.lemmas.Bool.{eqb-true, ltb-true}
use Rattle.y86_base.specs.Text.{after_byte, behind, below_word, is_blank}
use Rattle.y86_base.proofs.Runs.{after_byte_some, behind-run, run_and_rest, run_passes}
use Rattle.y86_base.proofs.Numbers.{eqb_self}
use Rattle.yo_object.specs.Grammar.{digits_in_line}
use Rattle.yo_object.specs.ObjectText.{Digits}
use Rattle.yas_laws.proofs.Grammar.{form_found, form_read}
use Rattle.pipe_stage_text.specs.Listed.{IsBetween, Lists, ListsByForm, address_behind, address_of, comment_of, is_before_bar, some_text, text_at, text_of, without_end}
use Rattle.pipe_stage_text.proofs.Listings.{lists_text}
use Rattle.pipe_stage_text.proofs.Trimmed.{between_is, is_between}

is_less : (n m : ℕ) → n < m → nat_lt n m ≡ true
is_less n m h = grind (arith, nat_tests)

-- ---- the address

record HasAddress (line : List ℕ) (address : ℕ) : Type 0 where
  digits : List ℕ
  pairs : List ℕ
  read : digits_in_line line ≡ Some (record { address = digits; bytes = pairs })
  number : digits_value 16 digits ≡ address
  word : address < 2 ^ 64
  bytes : 0 < length pairs

below_is : (n m limit : ℕ) (b : Bool) → nat_lt n limit ≡ b → (if b then Some n else None) ≡ Some m → (n ≡ m) × (n < limit)
below_is n m limit true is e = (same_Some n m e, ltb-true n limit is)
below_is n m limit false is e = absurd (none-some m e)

word_is : (n m : ℕ) → below_word n ≡ Some m → (n ≡ m) × (n < 2 ^ 64)
word_is n m e = below_is n m (2 ^ 64) (nat_lt n (2 ^ 64)) refl e

bytes_are : (count n m : ℕ) (b : Bool) → nat_lt 0 count ≡ b → (if b then below_word n else None) ≡ Some m → (0 < count) × (below_word n ≡ Some m)
bytes_are count n m true is e = (ltb-true 0 count is, e)
bytes_are count n m false is e = absurd (none-some m e)

address_from : (line : List ℕ) (address : ℕ) (found : Option Digits) → digits_in_line line ≡ found → option_and_then address_behind found ≡ Some address →
    HasAddress line address
address_from line address None is e = absurd (none-some address e)
address_from line address (Some d) is e =
    let bytes = bytes_are (length d.bytes) (digits_value 16 d.address) address (nat_lt 0 (length d.bytes)) refl e in
    let word = word_is (digits_value 16 d.address) address bytes.1 in
    record {
      digits = d.address;
      pairs = d.bytes;
      read = is;
      number = word.0;
      word = subst (λ n. n < 2 ^ 64) word.0 word.1;
      bytes = bytes.0;
    }

address_found : (line : List ℕ) (address : ℕ) → address_of line ≡ Some address → HasAddress line address
unfolding address_of
address_found line address e = address_from line address (digits_in_line line) refl e

behind_is : (digits pairs : List ℕ) (address : ℕ) → digits_value 16 digits ≡ address → address < 2 ^ 64 → 0 < length pairs →
    address_behind (record { address = digits; bytes = pairs }) ≡ Some address
behind_is digits pairs address number word bytes = rw (is_less 0 (length pairs) bytes, number, is_less address (2 ^ 64) word) refl

address_is : (line digits pairs : List ℕ) (address : ℕ) → digits_in_line line ≡ Some (record { address = digits; bytes = pairs }) → digits_value 16 digits ≡ address →
    address < 2 ^ 64 → 0 < length pairs → address_of line ≡ Some address
unfolding address_of
address_is line digits pairs address read number word bytes = ap (option_and_then address_behind) read ∙ behind_is digits pairs address number word bytes

-- ---- the text

text_found : (own text : List ℕ) → some_text own ≡ Some text → (own ≡ text) × (0 < length text)
text_found [] text e = absurd (none-some text e)
text_found (byte ∷ rest) text e =
    let some : 0 < length (byte ∷ rest) = omega arith in
    (same_Some (byte ∷ rest) text e, subst (λ xs. 0 < length xs) (same_Some (byte ∷ rest) text e) some)

text_is : (text : List ℕ) → 0 < length text → some_text text ≡ Some text
text_is [] some = absurd (omega (arith, some))
text_is (byte ∷ rest) some = refl

bar_from : (rest : List ℕ) (found : Option (List ℕ)) → after_byte 124 rest ≡ found → 0 < length (without_end (behind is_blank (unwrap_or found []))) →
    rest ≡ 124 ∷ unwrap_or found []
bar_from rest None is some =
    let none : 0 < 0 = some in
    absurd (omega (arith, none))
bar_from rest (Some comment) is some = after_byte_some 124 rest comment is

bar_found : (line : List ℕ) → 0 < length (text_of line) → line ≡ take_while is_before_bar line ++ (124 ∷ comment_of line)
unfolding text_of
bar_found line some =
    run_and_rest is_before_bar line
    ∙ ap (λ xs. take_while is_before_bar line ++ xs) (bar_from (behind is_before_bar line) (after_byte 124 (behind is_before_bar line)) refl some)

comment_is : (line head comment : List ℕ) → line ≡ head ++ (124 ∷ comment) → list_all is_before_bar head ≡ true → comment_of line ≡ comment
comment_is line head comment bar first =
    ap (λ xs. unwrap_or (after_byte 124 xs) []) (ap (behind is_before_bar) bar ∙ behind-run is_before_bar head (124 ∷ comment) first refl)

text_of_is : (line head comment text : List ℕ) → line ≡ head ++ (124 ∷ comment) → list_all is_before_bar head ≡ true → 0 < length text → IsBetween comment text →
    text_of line ≡ text
unfolding text_of
text_of_is line head comment text bar first some between =
    ap (λ xs. without_end (behind is_blank xs)) (comment_is line head comment bar first) ∙ between_is comment text some between

-- ---- both

parts_of : (address : ℕ) (found : Option ℕ) (shown : Option (List ℕ)) (text : List ℕ) →
    option_and_then (λ own. if nat_eq own address then shown else None) found ≡ Some text → (found ≡ Some address) × (shown ≡ Some text)
parts_of address None shown text e = absurd (none-some text e)
parts_of address (Some own) shown text e = by (nat_eq own address) refl e
  where
    by : (b : Bool) → nat_eq own address ≡ b → (if b then shown else None) ≡ Some text → (Some own ≡ Some address) × (shown ≡ Some text)
    by true is said = (ap (λ n. Some n) (eqb-true own address is), said)
    by false is said = absurd (none-some text said)

text_at_parts : (address : ℕ) (line text : List ℕ) → text_at address line ≡ Some text → (address_of line ≡ Some address) × (some_text (text_of line) ≡ Some text)
unfolding text_at
text_at_parts address line text e = parts_of address (address_of line) (some_text (text_of line)) text e

lists_from : (address : ℕ) (line text : List ℕ) → HasAddress line address → text_of line ≡ text → 0 < length text → Lists address line text
unfolding text_of
lists_from address line text h own some =
    record {
      digits = h.digits;
      pairs = h.pairs;
      form = form_found line h.digits h.pairs h.read;
      number = h.number;
      word = h.word;
      bytes = h.bytes;
      head = take_while is_before_bar line;
      comment = comment_of line;
      bar = bar_found line (subst (λ xs. 0 < length xs) (sym own) some);
      first = run_passes is_before_bar line;
      between = subst (λ xs. IsBetween (comment_of line) xs) own (is_between (comment_of line));
      some = some;
    }

pub lists_by_form : ListsByForm
lists_by_form address line text = (
  λ e.
      let parts = text_at_parts address line text e in
      let own = text_found (text_of line) text parts.1 in
      lists_from address line text (address_found line address parts.0) own.0 own.1,
  λ h.
      let own = text_of_is line h.head h.comment text h.bar h.first h.some h.between in
      let found = address_is line h.digits h.pairs address (form_read line h.digits h.pairs h.form) h.number h.word h.bytes in
      lists_text address address line text found (ap some_text own ∙ text_is text h.some) ∙ ap (λ b. cond b (Some text) None) (eqb_self address),
)
