-- What is written is read back.
use Rattle.std.proofs.Common.{◌≡◌, ℕ, ◌^◌, ◌<◌, Bool, true, false, ◌||◌, nat_lt, if◌then◌else◌, All, List, [], ◌∷◌, ◌++◌, length, drop, take_while, Some, None, unwrap_or, refl, sym, ap, ◌∙◌, arith}
use Rattle.std.specs.List.{list_all}
use Rattle.std.specs.Str.Parse.{IsNumeral, digits_value}
use Rattle.std.proofs.lemmas.Bool.Decides.{nat_tests}
use Rattle.std.proofs.lemmas.List.{append-nil, drop_all}
use Rattle.std.proofs.lemmas.List.Elements.{All-append, All-cons, All-nil, All-head, All-tail}
use Rattle.y86_base.specs.Text.{HasNoLineFeed, begins, behind, is_decimal, is_line_feed, is_lower_hex, with_line_feeds}
use Rattle.y86_base.proofs.Numerals.{numeral_digits, numeral_lower, numeral_value, word_has_room, all_decimal}
use Rattle.y86_base.proofs.Runs.{begins_front, behind-run, take_while-run}
use Rattle.aiger_out.specs.declared.form.AndLine.{AndLine}
use Rattle.aiger_out.specs.declared.form.Header.{Header}
use Rattle.aiger_out.specs.Lines.{behind_aag, counted, ended, grown, header_of, number_at, number_behind, one_number, three_numbers, unended}
use Rattle.aiger_out.specs.Written.{and_text, decimal, header_text, input_symbol, output_symbol, spaced}

is_numeral : (n : ℕ) → n < 2 ^ 64 → IsNumeral 10 (decimal n)
is_numeral n h = numeral_digits 10 1 n (omega arith) (omega arith) (word_has_room 10 n (omega arith) h)

pub decimal_digits : (n : ℕ) → n < 2 ^ 64 → list_all is_decimal (decimal n) ≡ true
decimal_digits n h = all_decimal (decimal n) (is_numeral n h).1

counted_same : (n : ℕ) → n < 2 ^ 64 → counted n ≡ n
counted_same n h = let e : nat_lt n (2 ^ 64) ≡ true = grind (arith, nat_tests) in ap (λ (b : Bool). unwrap_or (if b then Some n else None) 18446744073709551615) e

pub number_read : (n : ℕ) (rest : List ℕ) → n < 2 ^ 64 → begins is_decimal rest ≡ false → number_at (decimal n ++ rest) ≡ Some (n, rest)
number_read n rest h stop =
    let digits = decimal_digits n h in
    let some : 0 < length (decimal n) = (is_numeral n h).0 in
    let value : digits_value 10 (decimal n) ≡ n = numeral_value 10 1 n (omega arith) (omega arith) (word_has_room 10 n (omega arith) h) in
    ap (λ (b : Bool). if b then Some (counted (digits_value 10 (take_while is_decimal (decimal n ++ rest))), behind is_decimal (decimal n ++ rest)) else None) (begins_front is_decimal (decimal n) rest some digits)
    ∙ (ap (λ (t : List ℕ). Some (counted (digits_value 10 t), behind is_decimal (decimal n ++ rest))) (take_while-run is_decimal (decimal n) rest digits stop)
    ∙ (ap (λ (t : List ℕ). Some (counted (digits_value 10 (decimal n)), t)) (behind-run is_decimal (decimal n) rest digits stop)
    ∙ ap (λ (m : ℕ). Some (m, rest)) (ap counted value ∙ counted_same n h)))

pub spaced_read : (n : ℕ) (rest : List ℕ) → n < 2 ^ 64 → begins is_decimal rest ≡ false → number_behind (spaced n ++ rest) ≡ Some (n, rest)
spaced_read n rest h stop = number_read n rest h stop

last_read : (n : ℕ) → n < 2 ^ 64 → number_behind (spaced n) ≡ Some (n, [])
last_read n h = ap number_behind (sym (append-nil (spaced n))) ∙ spaced_read n [] h refl

pub one_read : (n : ℕ) → n < 2 ^ 64 → one_number (decimal n) ≡ Some n
one_read n h =
    let e : number_at (decimal n) ≡ Some (n, []) = ap number_at (sym (append-nil (decimal n))) ∙ number_read n [] h refl in
    rw e refl

three_chain : (t0 t1 t2 : List ℕ) (a b c : ℕ) → number_at t0 ≡ Some (a, t1) → number_behind t1 ≡ Some (b, t2) → number_behind t2 ≡ Some (c, [])
    → three_numbers t0 ≡ Some (record { lhs = a; rhs0 = b; rhs1 = c })
three_chain t0 t1 t2 a b c e f g = rw (e, f, g) refl

pub and_read : (a : AndLine) → a.lhs < 2 ^ 64 → a.rhs0 < 2 ^ 64 → a.rhs1 < 2 ^ 64 → three_numbers (and_text a) ≡ Some a
and_read a l x y =
    three_chain (and_text a) (spaced a.rhs0 ++ spaced a.rhs1) (spaced a.rhs1) a.lhs a.rhs0 a.rhs1
    (number_read a.lhs (spaced a.rhs0 ++ spaced a.rhs1) l refl) (spaced_read a.rhs0 (spaced a.rhs1) x refl) (last_read a.rhs1 y)

header_chain : (t t0 t1 t2 t3 t4 : List ℕ) (m i l o a : ℕ) → behind_aag t ≡ Some t0 → number_behind t0 ≡ Some (m, t1) → number_behind t1 ≡ Some (i, t2) → number_behind t2 ≡ Some (l, t3)
    → number_behind t3 ≡ Some (o, t4) → number_behind t4 ≡ Some (a, []) → header_of t ≡ Some (record { most = m; inputs = i; latches = l; outputs = o; ands = a })
header_chain t t0 t1 t2 t3 t4 m i l o a e0 e1 e2 e3 e4 e5 = rw (e0, e1, e2, e3, e4, e5) refl

-- the numbers of a header are words
pub record AreWords (h : Header) : Type 0 where
  pub most : h.most < 2 ^ 64
  pub inputs : h.inputs < 2 ^ 64
  pub latches : h.latches < 2 ^ 64
  pub outputs : h.outputs < 2 ^ 64
  pub ands : h.ands < 2 ^ 64

pub header_read : (h : Header) → AreWords h → header_of (header_text h) ≡ Some h
header_read h w =
    let t4 : List ℕ = spaced h.ands in
    let t3 : List ℕ = spaced h.outputs ++ t4 in
    let t2 : List ℕ = spaced h.latches ++ t3 in
    let t1 : List ℕ = spaced h.inputs ++ t2 in
    let t0 : List ℕ = spaced h.most ++ t1 in
    header_chain (header_text h) t0 t1 t2 t3 t4 h.most h.inputs h.latches h.outputs h.ands refl
    (spaced_read h.most t1 w.most refl) (spaced_read h.inputs t2 w.inputs refl) (spaced_read h.latches t3 w.latches refl) (spaced_read h.outputs t4 w.outputs refl) (last_read h.ands w.ands)

-- ---- lines

abbrev IsInLine : ℕ → Type 0
IsInLine byte = is_line_feed byte ≡ false

no_feed : (x : ℕ) → (is_decimal x || is_lower_hex x) ≡ true → is_line_feed x ≡ false
no_feed x e = grind (arith, nat_tests)

abbrev IsLower : ℕ → Type 0
IsLower digit = (is_decimal digit || is_lower_hex digit) ≡ true

free_digits : (ds : List ℕ) → All IsLower ds → HasNoLineFeed ds
free_digits [] e = All-nil IsInLine
free_digits (d ∷ ds) e = All-cons IsInLine d ds (no_feed d (All-head IsLower d ds e)) (free_digits ds (All-tail IsLower d ds e))

pub decimal_free : (n : ℕ) → HasNoLineFeed (decimal n)
decimal_free n = free_digits (decimal n) (numeral_lower 10 1 n (omega arith) (omega arith))

pub spaced_free : (n : ℕ) → HasNoLineFeed (spaced n)
spaced_free n = All-cons IsInLine 32 (decimal n) refl (decimal_free n)

pub and_free : (a : AndLine) → HasNoLineFeed (and_text a)
and_free a =
    All-append IsInLine (decimal a.lhs) (spaced a.rhs0 ++ spaced a.rhs1) (decimal_free a.lhs)
    (All-append IsInLine (spaced a.rhs0) (spaced a.rhs1) (spaced_free a.rhs0) (spaced_free a.rhs1))

named_free : (kind letter k n : ℕ) → is_line_feed kind ≡ false → is_line_feed letter ≡ false → HasNoLineFeed (kind ∷ (decimal k ++ (32 ∷ letter ∷ decimal n)))
named_free kind letter k n e f =
    All-cons IsInLine kind (decimal k ++ (32 ∷ letter ∷ decimal n)) e
    (All-append IsInLine (decimal k) (32 ∷ letter ∷ decimal n) (decimal_free k)
    (All-cons IsInLine 32 (letter ∷ decimal n) refl (All-cons IsInLine letter (decimal n) f (decimal_free n))))

pub input_symbol_free : (k : ℕ) → HasNoLineFeed (input_symbol k)
input_symbol_free k = named_free 105 120 k k refl refl

pub output_symbol_free : (k n : ℕ) → HasNoLineFeed (output_symbol k n)
output_symbol_free k n = named_free 111 79 k n refl refl

pub header_free : (h : Header) → HasNoLineFeed (header_text h)
header_free h =
    let t4 : List ℕ = spaced h.ands in
    let t3 : List ℕ = spaced h.outputs ++ t4 in
    let t2 : List ℕ = spaced h.latches ++ t3 in
    let t1 : List ℕ = spaced h.inputs ++ t2 in
    let t0 : List ℕ = spaced h.most ++ t1 in
    All-cons IsInLine 97 (97 ∷ 103 ∷ t0) refl (All-cons IsInLine 97 (103 ∷ t0) refl (All-cons IsInLine 103 t0 refl
    (All-append IsInLine (spaced h.most) t1 (spaced_free h.most)
    (All-append IsInLine (spaced h.inputs) t2 (spaced_free h.inputs)
    (All-append IsInLine (spaced h.latches) t3 (spaced_free h.latches)
    (All-append IsInLine (spaced h.outputs) t4 (spaced_free h.outputs) (spaced_free h.ands)))))))

ended_no : (byte : ℕ) (bytes : List ℕ) → is_line_feed byte ≡ false → ended (byte ∷ bytes) ≡ grown byte (ended bytes)
ended_no byte bytes e = ap (λ (b : Bool). if b then [] ∷ ended bytes else grown byte (ended bytes)) e

ended_line : (line rest : List ℕ) → HasNoLineFeed line → ended (line ++ 10 ∷ rest) ≡ line ∷ ended rest
ended_line [] rest h = refl
ended_line (byte ∷ line) rest h =
    ended_no byte (line ++ 10 ∷ rest) (All-head IsInLine byte line h) ∙ ap (grown byte) (ended_line line rest (All-tail IsInLine byte line h))

pub ended_all : (some : List (List ℕ)) → All HasNoLineFeed some → ended (with_line_feeds some) ≡ some
ended_all [] h = refl
ended_all (line ∷ some) h =
    ended_line line (with_line_feeds some) (All-head HasNoLineFeed line some h)
    ∙ ap (λ (ls : List (List ℕ)). line ∷ ls) (ended_all some (All-tail HasNoLineFeed line some h))

pub unended_none : (some : List (List ℕ)) → All HasNoLineFeed some → unended (with_line_feeds some) ≡ []
unended_none some h =
    ap (λ (ls : List (List ℕ)). drop (length (with_line_feeds ls)) (with_line_feeds some)) (ended_all some h) ∙ drop_all (length (with_line_feeds some)) (with_line_feeds some) (omega arith)
