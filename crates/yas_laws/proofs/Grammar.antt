-- The definition of an object line reads exactly the form that the grammar gives.
use Rattle.std.proofs.Common.{◌≡◌, ℕ, ◌<◌, Bool, true, false, cond, ◌&&◌, nat_lt, List, [], ◌∷◌, ◌++◌, length, refl, sym, ap, ◌∙◌, Option, Some, None, take_while, arith}
use Rattle.std.specs.List.{list_all}
use Rattle.std.proofs.lemmas.Bool.{eqb-true, lt-ltb, ltb-true, and_parts}
use Rattle.std.proofs.lemmas.Bool.Decides.{nat_tests}
use Rattle.std.proofs.lemmas.List.{append_assoc}
use Rattle.std.proofs.lemmas.Option.{option_and_then_some}
use Rattle.y86_base.specs.Text.{after_byte, begins, behind, is_blank, is_hex}
use Rattle.y86_base.proofs.Runs.{after_byte_some, behind-run, list_all-append, run_and_rest, run_passes, take_while-run}
use Rattle.yo_object.specs.ObjectText.{after_prefix, is_line_end, Digits, digits_behind_colon, digits_of}
use Rattle.yo_object.specs.Grammar.{IsObjectLine, BeginsObjectLine, digits_in_line, ReadsTheForm, SkipsTheRest}

-- a text doesn't begin with a byte that passes the test
abbrev Stops : (ℕ → Bool) → List ℕ → Type 0
Stops passes text = begins passes text ≡ false

after_prefix_some : (text rest : List ℕ) → after_prefix text ≡ Some rest → text ≡ 48 ∷ 120 ∷ rest
after_prefix_some text rest h =
    option_and_then_some (after_byte 120) (after_byte 48 text) rest h
    (λ behind_zero first second. after_byte_some 48 text behind_zero first ∙ ap (λ t. 48 ∷ t) (after_byte_some 120 behind_zero rest second))

hex_not_blank : (byte : ℕ) → is_hex byte ≡ true → is_blank byte ≡ false
hex_not_blank byte h = grind (arith, nat_tests)

blank_not_hex : (byte : ℕ) → is_blank byte ≡ true → is_hex byte ≡ false
blank_not_hex byte h = grind (arith, nat_tests)

-- neither blanks nor hex digits go on at the end of a line
end_stops_blanks : (comment : List ℕ) → is_line_end comment ≡ true → Stops is_blank comment
end_stops_blanks [] h = refl
end_stops_blanks (first ∷ comment) h = let e : first ≡ 124 = eqb-true first 124 h in rw e refl

end_stops_hex : (comment : List ℕ) → is_line_end comment ≡ true → Stops is_hex comment
end_stops_hex [] h = refl
end_stops_hex (first ∷ comment) h = let e : first ≡ 124 = eqb-true first 124 h in rw e refl

-- hex digits don't go on at blanks followed by something at which they don't go on
blanks_stop_hex : (trail comment : List ℕ) → list_all is_blank trail ≡ true → Stops is_hex comment → Stops is_hex (trail ++ comment)
blanks_stop_hex [] comment h stops = stops
blanks_stop_hex (first ∷ trail) comment h stops = blank_not_hex first (and_parts (is_blank first) (list_all is_blank trail) h).0

-- what is read after the colon
pub record IsData (text bytes : List ℕ) : Type 0 where
  pub digits : take_while is_hex (behind is_blank text) ≡ bytes
  pub ends : is_line_end (behind is_blank (behind is_hex (behind is_blank text))) ≡ true

data_read : (gap bytes trail comment : List ℕ) → list_all is_blank gap ≡ true → list_all is_hex bytes ≡ true → list_all is_blank trail ≡ true →
    is_line_end comment ≡ true → IsData (gap ++ (bytes ++ (trail ++ comment))) bytes
data_read gap [] trail comment blank_gap hex blank_trail ends =
    let regroup : gap ++ (trail ++ comment) ≡ (gap ++ trail) ++ comment = sym (append_assoc gap trail comment) in
    let at : behind is_blank (gap ++ (trail ++ comment)) ≡ comment =
    rw regroup (behind-run is_blank (gap ++ trail) comment (list_all-append is_blank gap trail blank_gap blank_trail) (end_stops_blanks comment ends)) in
    record {
      digits = rw at (take_while-run is_hex [] comment refl (end_stops_hex comment ends));
      ends = rw (at, behind-run is_hex [] comment refl (end_stops_hex comment ends), behind-run is_blank [] comment refl (end_stops_blanks comment ends)) ends;
    }
data_read gap (first ∷ bytes) trail comment blank_gap hex blank_trail ends =
    let stops : Stops is_hex (trail ++ comment) = blanks_stop_hex trail comment blank_trail (end_stops_hex comment ends) in
    let at : behind is_blank (gap ++ (first ∷ (bytes ++ (trail ++ comment)))) ≡ (first ∷ bytes) ++ (trail ++ comment) =
    behind-run is_blank gap _ blank_gap (hex_not_blank first (and_parts (is_hex first) (list_all is_hex bytes) hex).0) in
    record {
      digits = rw at (take_while-run is_hex (first ∷ bytes) (trail ++ comment) hex stops);
      ends = rw (at, behind-run is_hex (first ∷ bytes) (trail ++ comment) hex stops, behind-run is_blank trail comment blank_trail (end_stops_blanks comment ends)) ends;
    }

data_found : (address text bytes : List ℕ) → 0 < length address → IsData text bytes → digits_behind_colon address text ≡ Some (record { address = address; bytes = bytes })
data_found address text bytes some d =
    rw (lt-ltb 0 (length address) some, d.ends, d.digits) refl

pub form_read : (line address bytes : List ℕ) → IsObjectLine line address bytes → digits_in_line line ≡ Some (record { address = address; bytes = bytes })
unfolding digits_of
form_read line address bytes form =
    let data_text : List ℕ = form.gap ++ (bytes ++ (form.trail ++ form.comment)) in
    let body : List ℕ = address ++ (58 ∷ data_text) in
    let start : behind is_blank line ≡ 48 ∷ 120 ∷ body = rw form.text (behind-run is_blank form.lead (48 ∷ 120 ∷ body) form.lead_blank refl) in
    let colon : behind is_hex body ≡ 58 ∷ data_text = behind-run is_hex address (58 ∷ data_text) form.address_hex refl in
    let digits : take_while is_hex body ≡ address = take_while-run is_hex address (58 ∷ data_text) form.address_hex refl in
    rw (start, colon, digits) (data_found address data_text bytes form.address_some
    (data_read form.gap bytes form.trail form.comment form.gap_blank form.bytes_hex form.trail_blank form.comment_ends))

-- what the definition found after the colon
record IsFound (read text address bytes : List ℕ) : Type 0 where
  some : 0 < length read
  ends : is_line_end (behind is_blank (behind is_hex (behind is_blank text))) ≡ true
  address_is : read ≡ address
  bytes_are : take_while is_hex (behind is_blank text) ≡ bytes

colon_found : (read text address bytes : List ℕ) → digits_behind_colon read text ≡ Some (record { address = address; bytes = bytes }) → IsFound read text address bytes
colon_found read text address bytes h =
    at (nat_lt 0 (length read) && is_line_end (behind is_blank (behind is_hex (behind is_blank text)))) refl h
  where
    at : (b : Bool) → (nat_lt 0 (length read) && is_line_end (behind is_blank (behind is_hex (behind is_blank text)))) ≡ b →
        cond {A = Option Digits} b (Some (record { address = read; bytes = take_while is_hex (behind is_blank text) })) None ≡ Some (record { address = address; bytes = bytes }) →
        IsFound read text address bytes
    at true e found =
        let both : (nat_lt 0 (length read) ≡ true) × (is_line_end (behind is_blank (behind is_hex (behind is_blank text))) ≡ true) = and_parts _ _ e in
        let mine : Digits = record { address = read; bytes = take_while is_hex (behind is_blank text) } in
        let theirs : Digits = record { address = address; bytes = bytes } in
        let same : mine ≡ theirs = cc in
        record {
          some = ltb-true 0 (length read) both.0;
          ends = both.1;
          address_is = ap (λ (d : Digits). d.address) same;
          bytes_are = ap (λ (d : Digits). d.bytes) same;
        }
    at false e found = absurd (cc)

pub form_found : (line address bytes : List ℕ) → digits_in_line line ≡ Some (record { address = address; bytes = bytes }) → IsObjectLine line address bytes
unfolding digits_of
form_found line address bytes h =
    option_and_then_some digits_of (after_prefix (behind is_blank line)) _ h (λ body prefix read.
    option_and_then_some (digits_behind_colon (take_while is_hex body)) (after_byte 58 (behind is_hex body)) _ read (λ rest colon found_.
    whole body rest (after_prefix_some _ body prefix) (after_byte_some 58 _ rest colon) (colon_found _ rest address bytes found_)))
  where
    whole : (body rest : List ℕ) → behind is_blank line ≡ 48 ∷ 120 ∷ body → behind is_hex body ≡ 58 ∷ rest →
        IsFound (take_while is_hex body) rest address bytes → IsObjectLine line address bytes
    whole body rest start colon f =
        let digits : List ℕ = behind is_blank rest in
        let tail : behind is_hex digits ≡ take_while is_blank (behind is_hex digits) ++ behind is_blank (behind is_hex digits) = run_and_rest is_blank (behind is_hex digits) in
        let at_digits : digits ≡ bytes ++ (take_while is_blank (behind is_hex digits) ++ behind is_blank (behind is_hex digits)) =
        run_and_rest is_hex digits ∙ (ap (λ x. x ++ behind is_hex digits) f.bytes_are ∙ ap (λ x. bytes ++ x) tail) in
        let at_rest : rest ≡ take_while is_blank rest ++ (bytes ++ (take_while is_blank (behind is_hex digits) ++ behind is_blank (behind is_hex digits))) =
        run_and_rest is_blank rest ∙ ap (λ x. take_while is_blank rest ++ x) at_digits in
        let at_body : body ≡ address ++ (58 ∷ (take_while is_blank rest ++ (bytes ++ (take_while is_blank (behind is_hex digits) ++ behind is_blank (behind is_hex digits))))) =
        run_and_rest is_hex body ∙ (ap (λ x. x ++ behind is_hex body) f.address_is ∙ ap (λ x. address ++ x) (colon ∙ ap (λ x. 58 ∷ x) at_rest)) in
        record {
          lead = take_while is_blank line;
          gap = take_while is_blank rest;
          trail = take_while is_blank (behind is_hex digits);
          comment = behind is_blank (behind is_hex digits);
          text = run_and_rest is_blank line ∙ ap (λ x. take_while is_blank line ++ x) (start ∙ ap (λ x. 48 ∷ 120 ∷ x) at_body);
          lead_blank = run_passes is_blank line;
          address_hex = rw (← f.address_is) (run_passes is_hex body);
          address_some = rw (← f.address_is) f.some;
          gap_blank = run_passes is_blank rest;
          bytes_hex = rw (← f.bytes_are) (run_passes is_hex digits);
          trail_blank = run_passes is_blank (behind is_hex digits);
          comment_ends = f.ends;
        }

pub begin_read : (line rest : List ℕ) → BeginsObjectLine line rest → after_prefix (behind is_blank line) ≡ Some rest
begin_read line rest begins = rw (begins.text, behind-run is_blank begins.lead (48 ∷ 120 ∷ rest) begins.lead_blank refl) refl

pub begin_found : (line rest : List ℕ) → after_prefix (behind is_blank line) ≡ Some rest → BeginsObjectLine line rest
begin_found line rest h = record {
  lead = take_while is_blank line;
  text = run_and_rest is_blank line ∙ ap (λ x. take_while is_blank line ++ x) (after_prefix_some _ rest h);
  lead_blank = run_passes is_blank line;
}

pub reads_the_form : ReadsTheForm
reads_the_form line address bytes = (form_found line address bytes, form_read line address bytes)

pub skips_the_rest : SkipsTheRest
skips_the_rest line rest = (begin_found line rest, begin_read line rest)
