-- Reading arguments from words, one by one, and collecting them.
use Rattle.std.proofs.Common.{◌≡◌, ℕ, ◌<◌, Bool, true, false, List, [], ◌∷◌, length, map, refl, Option, Some, None, option_and_then, is_some, ◌≢◌, ◌&&◌, arith}
use Rattle.std.specs.Prelude.{string_bytes, String}
use Rattle.std.specs.Global.{Global}
use Rattle.y86_words.specs.declared.option.OptionName.{OptionName}
use Rattle.y86_words.specs.declared.option.OptionName.TheVariants.{Full, Mem, Limit, Trace, Checked, Cert}
use Rattle.std.specs.Borrow.{Bor}
use Rattle.y86_words.specs.declared.form.PlaceForm as code_place
use Rattle.y86_words.specs.Views.{place_in, words_in}
use Rattle.y86_words.specs.Numbers.{number_that}
use Rattle.y86_words.specs.Arguments.{FoundSoFar, added, all_added, Argument, place, switch, switch_of, index_of, takes, is_option, arguments, in_front}
use Rattle.y86_words.specs.Forms.{fits_places, fits_place}

pub no_option : (word : List ℕ) (rest : List (List ℕ)) → is_option word ≡ true → switch_of word ≡ None → arguments (word ∷ rest) ≡ None
unfolding arguments
no_option word [] option none = rw (option, none) refl
no_option word (next ∷ rest) option none = rw (option, none) refl

pub empty_word : (word : List ℕ) (rest : List (List ℕ)) → is_option word ≡ false → length word ≡ 0 → arguments (word ∷ rest) ≡ None
unfolding arguments
empty_word [] [] other none = refl
empty_word [] (next ∷ rest) other none = refl
empty_word (first ∷ word) rest other none = absurd (omega arith)

pub place_read : (word : List ℕ) (rest : List (List ℕ)) → is_option word ≡ false → 0 < length word →
    arguments (word ∷ rest) ≡ in_front (Some (place word)) (arguments rest)
unfolding arguments
place_read [] rest other some = absurd (omega arith)
place_read (first ∷ word) [] other some = rw other refl
place_read (first ∷ word) (next ∷ rest) other some = rw other refl

no_number : (t : Option (ℕ → Bool)) → is_some t ≡ false → t ≡ None
no_number None e = refl
no_number (Some passes) e = absurd (cc)

a_number : (t : Option (ℕ → Bool)) → is_some t ≡ true → (passes : ℕ → Bool) × (t ≡ Some passes)
a_number None e = absurd (cc)
a_number (Some passes) e = (passes, refl)

pub flag_read : (word : List ℕ) (rest : List (List ℕ)) (s : OptionName) → is_option word ≡ true → switch_of word ≡ Some s → is_some (takes s) ≡ false →
    arguments (word ∷ rest) ≡ in_front (Some (switch s 0)) (arguments rest)
unfolding arguments
flag_read word [] s option some flag = rw (option, some, no_number (takes s) flag) refl
flag_read word (next ∷ rest) s option some flag = rw (option, some, no_number (takes s) flag) refl

pub switch_alone : (word : List ℕ) (behind : List (String Global)) (s : OptionName) → is_option word ≡ true → switch_of word ≡ Some s → is_some (takes s) ≡ true → length behind ≡ 0 →
    arguments (word ∷ map string_bytes behind) ≡ None
unfolding arguments
switch_alone word [] s option some takes_one none = let t = a_number (takes s) takes_one in rw (option, some, t.1) refl
switch_alone word (next ∷ rest) s option some takes_one none = absurd (omega arith)

pub switch_refused : (word value : List ℕ) (rest : List (List ℕ)) (s : OptionName) → is_option word ≡ true → switch_of word ≡ Some s → is_some (takes s) ≡ true →
    option_and_then (λ passes. number_that passes value) (takes s) ≡ None → arguments (word ∷ value ∷ rest) ≡ None
unfolding arguments
switch_refused word value rest s option some takes_one none =
    let t = a_number (takes s) takes_one in
    let no : number_that t.0 value ≡ None = rw t.1 at none in
    rw (option, some, t.1, no) refl

pub switch_read : (word value : List ℕ) (rest : List (List ℕ)) (s : OptionName) (n : ℕ) → is_option word ≡ true → switch_of word ≡ Some s → is_some (takes s) ≡ true →
    option_and_then (λ passes. number_that passes value) (takes s) ≡ Some n → arguments (word ∷ value ∷ rest) ≡ in_front (Some (switch s n)) (arguments rest)
unfolding arguments
switch_read word value rest s n option some takes_one is =
    let t = a_number (takes s) takes_one in
    let yes : number_that t.0 value ≡ Some n = rw t.1 at is in
    rw (option, some, t.1, yes) refl

-- each option has a slot
pub index_below : (s : OptionName) → index_of s < 6
index_below Full = omega arith
index_below Mem = omega arith
index_below Limit = omega arith
index_below Trace = omega arith
index_below Checked = omega arith
index_below Cert = omega arith

-- ---- places

pub other_lengths : (ps : List code_place.PlaceForm) (ws : List (Bor (List ℕ))) → length ps ≢ length ws → fits_places (map place_in ps) (words_in ws) ≡ false
other_lengths [] [] h = absurd (h refl)
other_lengths [] (w ∷ ws) h = refl
other_lengths (p ∷ ps) [] h = refl
other_lengths (p ∷ ps) (w ∷ ws) h = at (fits_place (place_in p) w.now) (other_lengths ps ws (λ same. h (omega (arith, same))))
  where
    at : (b : Bool) → fits_places (map place_in ps) (words_in ws) ≡ false → (b && fits_places (map place_in ps) (words_in ws)) ≡ false
    at true e = e
    at false e = refl

-- ---- collecting arguments

all_none : (arguments : List Argument) → all_added None arguments ≡ None
all_none [] = refl
all_none (argument ∷ rest) = all_none rest

pub refused : (f : FoundSoFar) (argument : Argument) (rest : Option (List Argument)) → added f argument ≡ None →
    option_and_then (all_added (Some f)) (in_front (Some argument) rest) ≡ None
refused f argument None none = refl
refused f argument (Some others) none = rw none (all_none others)

pub no_argument : (words : List (String Global)) → length words ≡ 0 → arguments (map string_bytes words) ≡ Some []
unfolding arguments
no_argument [] none = refl
no_argument (word ∷ words) none = absurd (omega arith)
