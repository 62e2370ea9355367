-- The law of the words: a command written as words is read back, and words form only legal commands.
use Rattle.std.proofs.Common.{◌≡◌, ℕ, ◌<◌, ◌≤◌, ◌^◌, Bool, true, false, cond, ltb, eqb, IsTrue, is_none, List, [], ◌∷◌, ◌++◌, length, get_or, set, refl, sym, ap, subst, ◌∙◌, Option, Some, None, option_and_then, Contains, append_assoc, append-nil, suc, arith}
use Rattle.std.proofs.lemmas.Bool.{and_from, le-leb, lt-ltb, eq-eqb, eqb-true, eqb-false}
use Rattle.std.proofs.lemmas.Fmt.{decimal_is_IsNumeral, length-decimal-le}
use Rattle.std.proofs.lemmas.List.{length-set, get_or-set_same, get_or-set_other}
use Rattle.std.proofs.lemmas.Str.Parse.{digit_from_value}
use Rattle.std.specs.Fmt.{decimal}
use Rattle.std.specs.Option.{option_to_list}
use Rattle.std.specs.Prelude.{codes}
use Rattle.std.specs.Str.Parse.{AllDigits}
use Rattle.y86_base.specs.Image.{IsSize, is_image_size}
use Rattle.y86_base.specs.declared.parts.Variant.{Variant}
use Rattle.y86_base.specs.declared.parts.Variant.TheVariants.{Base}
use Rattle.y86_base.specs.declared.parts.Variant.TheVariants as variant
use Rattle.y86_base.proofs.Numerals.{all_decimal}
use Rattle.y86_words.specs.declared.option.OptionName.{OptionName}
use Rattle.y86_words.specs.declared.option.OptionName.TheVariants.{Full, Mem, Limit, Trace, Checked, Cert}
use Rattle.y86_words.specs.Arguments.{Argument, place, switch, arguments, in_front, index_of, FoundSoFar, nothing_filled, all_added, is_option}
use Rattle.y86_words.specs.Forms.{Command, yas, yis, hcl, ssim, ssimp, psim, check_seq, check_plus, check_pipe, certify_pipe, recheck, Form, forms, fits, built_command, first_fit, form_of, sample, most_drawn, most_seed, aig, aigrun, big, most_instructions}
use Rattle.y86_words.specs.Numbers.{is_number, number_of, number_that, is_run_limit, number_within}
use Rattle.y86_words.specs.Wording.{IsFileName, IsRunLimit, IsInRange, trace_words, checked_words, variant_words, words_of, places_of, numbers_of, IsFound, HasForm}
use Rattle.y86_words.proofs.Arguments.{index_below, place_read, switch_read}

-- ---- the words of a legal command form that command

number_of-decimal : (n : ℕ) → n < 2 ^ 64 → number_of (decimal n) ≡ Some n
number_of-decimal n small =
    let numeral = decimal_is_IsNumeral n small in
    let most : length (decimal n) ≤ 20 = length-decimal-le 20 n (omega arith) (omega arith) small in
    let number : is_number (decimal n) ≡ true =
    and_from _ _ (and_from _ _ (le-leb 1 (length (decimal n)) numeral.0.0) (le-leb (length (decimal n)) 20 most)) (all_decimal (decimal n) numeral.0.1) in
    rw (number, numeral.1, lt-ltb n (2 ^ 64) small) refl

size_passes : (n : ℕ) → IsSize n → is_image_size n ≡ true
unfolding is_image_size
size_passes n size = and_from _ _ (and_from _ _ (le-leb 64 n size.least) (le-leb n 1048576 size.most)) (eq-eqb _ 0 size.whole_words)

limit_passes : (n : ℕ) → IsRunLimit n → is_run_limit n ≡ true
limit_passes n limit = and_from _ _ (le-leb 1 n limit.0) (le-leb n 100000000 limit.1)

size_number : (n : ℕ) → IsSize n → number_that is_image_size (decimal n) ≡ Some n
size_number n size = rw (number_of-decimal n (omega (arith, size.most)), size_passes n size) refl

limit_number : (n : ℕ) → IsRunLimit n → number_that is_run_limit (decimal n) ≡ Some n
limit_number n limit = rw (number_of-decimal n (omega (arith, limit.1)), limit_passes n limit) refl

size_arguments : (n : ℕ) (rest : List (List ℕ)) → IsSize n → arguments (codes "--mem" ∷ decimal n ∷ rest) ≡ in_front (Some (switch Mem n)) (arguments rest)
size_arguments n rest size = switch_read (codes "--mem") (decimal n) rest Mem n refl refl refl (size_number n size)

limit_arguments : (n : ℕ) (rest : List (List ℕ)) → IsRunLimit n → arguments (codes "--limit" ∷ decimal n ∷ rest) ≡ in_front (Some (switch Limit n)) (arguments rest)
limit_arguments n rest limit = switch_read (codes "--limit") (decimal n) rest Limit n refl refl refl (limit_number n limit)

file_arguments : (file : List ℕ) (rest : List (List ℕ)) → IsFileName file → arguments (file ∷ rest) ≡ in_front (Some (place file)) (arguments rest)
file_arguments file rest name = place_read file rest name.1 name.0

seq_arguments : (rest : List (List ℕ)) → arguments (codes "seq" ∷ rest) ≡ in_front (Some (place (codes "seq"))) (arguments rest)
seq_arguments rest = file_arguments (codes "seq") rest (omega arith, refl)

plus_arguments : (rest : List (List ℕ)) → arguments (codes "seqplus" ∷ rest) ≡ in_front (Some (place (codes "seqplus"))) (arguments rest)
plus_arguments rest = file_arguments (codes "seqplus") rest (omega arith, refl)

pipe_arguments : (rest : List (List ℕ)) → arguments (codes "pipe" ∷ rest) ≡ in_front (Some (place (codes "pipe"))) (arguments rest)
pipe_arguments rest = file_arguments (codes "pipe") rest (omega arith, refl)

-- decimal digits don't form an option
no_option : (digits : List ℕ) → AllDigits 10 digits → is_option digits ≡ false
no_option [] h = refl
no_option (c ∷ digits) h = at (eqb 45 c) refl
  where
    at : (b : Bool) → eqb 45 c ≡ b → is_option (c ∷ digits) ≡ false
    at true e = let within = digit_from_value c h.0 in absurd (omega (arith, within.0, eqb-true 45 c e))
    at false e = rw e refl

number_arguments : (n : ℕ) (rest : List (List ℕ)) → n < 2 ^ 64 → arguments (decimal n ∷ rest) ≡ in_front (Some (place (decimal n))) (arguments rest)
number_arguments n rest small = let numeral = decimal_is_IsNumeral n small in file_arguments (decimal n) rest (numeral.0.0, no_option (decimal n) numeral.0.1)

number_read : (least most n : ℕ) → least ≤ n → n ≤ most → n < 2 ^ 64 → number_within least most (decimal n) ≡ Some n
number_read least most n low high small = rw (number_of-decimal n small, le-leb least n low, le-leb n most high) refl

variant_arguments : Variant → List Argument
variant_arguments variant.Base = []
variant_arguments variant.Full = switch Full 0 ∷ []

variant_read : (v : Variant) → arguments (variant_words v) ≡ Some (variant_arguments v)
unfolding arguments variant_arguments
variant_read variant.Base = refl
variant_read variant.Full = refl

no_arguments : arguments [] ≡ Some []
unfolding arguments
no_arguments = refl

trace_arguments : Bool → List Argument
trace_arguments false = []
trace_arguments true = switch Trace 0 ∷ []

checked_arguments : Bool → List Argument
checked_arguments false = []
checked_arguments true = switch Checked 0 ∷ []

run_arguments : Bool → Bool → Variant → List Argument
run_arguments trace checked v = trace_arguments trace ++ (checked_arguments checked ++ variant_arguments v)

run_read : (trace checked : Bool) (v : Variant) → arguments (trace_words trace ++ (checked_words checked ++ variant_words v)) ≡ Some (run_arguments trace checked v)
unfolding arguments run_arguments trace_arguments checked_arguments variant_arguments
run_read false false variant.Base = refl
run_read false false variant.Full = refl
run_read false true variant.Base = refl
run_read false true variant.Full = refl
run_read true false variant.Base = refl
run_read true false variant.Full = refl
run_read true true variant.Base = refl
run_read true true variant.Full = refl

cert_read : (v : Variant) → arguments (codes "--cert" ∷ variant_words v) ≡ Some (switch Cert 0 ∷ variant_arguments v)
unfolding arguments variant_arguments
cert_read variant.Base = refl
cert_read variant.Full = refl

pub legal_written : (command : Command) → IsInRange command → form_of (words_of command) ≡ Some command
unfolding form_of first_fit variant_arguments trace_arguments checked_arguments run_arguments
legal_written (yas source size variant.Base) legal = rw (file_arguments source _ legal.0, size_arguments size _ legal.1, variant_read variant.Base) refl
legal_written (yas source size variant.Full) legal = rw (file_arguments source _ legal.0, size_arguments size _ legal.1, variant_read variant.Full) refl
legal_written (yis object size limit variant.Base) legal =
    rw (file_arguments object _ legal.0, size_arguments size _ legal.1, limit_arguments limit _ legal.2, variant_read variant.Base) refl
legal_written (yis object size limit variant.Full) legal =
    rw (file_arguments object _ legal.0, size_arguments size _ legal.1, limit_arguments limit _ legal.2, variant_read variant.Full) refl
legal_written (hcl file) legal = rw (file_arguments file _ legal, no_arguments) refl
legal_written (ssim file object size limit variant.Base) legal =
    rw (file_arguments file _ legal.0, file_arguments object _ legal.1, size_arguments size _ legal.2, limit_arguments limit _ legal.3, variant_read variant.Base) refl
legal_written (ssim file object size limit variant.Full) legal =
    rw (file_arguments file _ legal.0, file_arguments object _ legal.1, size_arguments size _ legal.2, limit_arguments limit _ legal.3, variant_read variant.Full) refl
legal_written (ssimp file object size limit variant.Base) legal =
    rw (file_arguments file _ legal.0, file_arguments object _ legal.1, size_arguments size _ legal.2, limit_arguments limit _ legal.3, variant_read variant.Base) refl
legal_written (ssimp file object size limit variant.Full) legal =
    rw (file_arguments file _ legal.0, file_arguments object _ legal.1, size_arguments size _ legal.2, limit_arguments limit _ legal.3, variant_read variant.Full) refl
legal_written (psim file object size limit false false variant.Base) legal =
    rw (file_arguments file _ legal.0, file_arguments object _ legal.1, size_arguments size _ legal.2, limit_arguments limit _ legal.3, run_read false false variant.Base) refl
legal_written (psim file object size limit false false variant.Full) legal =
    rw (file_arguments file _ legal.0, file_arguments object _ legal.1, size_arguments size _ legal.2, limit_arguments limit _ legal.3, run_read false false variant.Full) refl
legal_written (psim file object size limit false true variant.Base) legal =
    rw (file_arguments file _ legal.0, file_arguments object _ legal.1, size_arguments size _ legal.2, limit_arguments limit _ legal.3, run_read false true variant.Base) refl
legal_written (psim file object size limit false true variant.Full) legal =
    rw (file_arguments file _ legal.0, file_arguments object _ legal.1, size_arguments size _ legal.2, limit_arguments limit _ legal.3, run_read false true variant.Full) refl
legal_written (psim file object size limit true false variant.Base) legal =
    rw (file_arguments file _ legal.0, file_arguments object _ legal.1, size_arguments size _ legal.2, limit_arguments limit _ legal.3, run_read true false variant.Base) refl
legal_written (psim file object size limit true false variant.Full) legal =
    rw (file_arguments file _ legal.0, file_arguments object _ legal.1, size_arguments size _ legal.2, limit_arguments limit _ legal.3, run_read true false variant.Full) refl
legal_written (psim file object size limit true true variant.Base) legal =
    rw (file_arguments file _ legal.0, file_arguments object _ legal.1, size_arguments size _ legal.2, limit_arguments limit _ legal.3, run_read true true variant.Base) refl
legal_written (psim file object size limit true true variant.Full) legal =
    rw (file_arguments file _ legal.0, file_arguments object _ legal.1, size_arguments size _ legal.2, limit_arguments limit _ legal.3, run_read true true variant.Full) refl
legal_written (check_seq file variant.Base) legal = rw (seq_arguments _, file_arguments file _ legal, variant_read variant.Base) refl
legal_written (check_seq file variant.Full) legal = rw (seq_arguments _, file_arguments file _ legal, variant_read variant.Full) refl
legal_written (check_plus file variant.Base) legal = rw (plus_arguments _, file_arguments file _ legal, variant_read variant.Base) refl
legal_written (check_plus file variant.Full) legal = rw (plus_arguments _, file_arguments file _ legal, variant_read variant.Full) refl
legal_written (check_pipe file variant.Base) legal = rw (pipe_arguments _, file_arguments file _ legal, variant_read variant.Base) refl
legal_written (check_pipe file variant.Full) legal = rw (pipe_arguments _, file_arguments file _ legal, variant_read variant.Full) refl
legal_written (certify_pipe file variant.Base) legal = rw (pipe_arguments _, file_arguments file _ legal, cert_read variant.Base) refl
legal_written (certify_pipe file variant.Full) legal = rw (pipe_arguments _, file_arguments file _ legal, cert_read variant.Full) refl
legal_written (recheck file cert variant.Base) legal = rw (file_arguments file _ legal.0, file_arguments cert _ legal.1, variant_read variant.Base) refl
legal_written (recheck file cert variant.Full) legal = rw (file_arguments file _ legal.0, file_arguments cert _ legal.1, variant_read variant.Full) refl
legal_written (sample file seed count variant.Base) legal =
    let small : seed < 2 ^ 64 = omega (arith, legal.1) in
    let few : count < 2 ^ 64 = omega (arith, legal.2) in
    rw (file_arguments file _ legal.0, number_arguments seed _ small, number_arguments count _ few, variant_read variant.Base)
    (rw (number_read 0 most_seed seed (omega arith) legal.1 small, number_read 0 most_drawn count (omega arith) legal.2 few) refl)
legal_written (sample file seed count variant.Full) legal =
    let small : seed < 2 ^ 64 = omega (arith, legal.1) in
    let few : count < 2 ^ 64 = omega (arith, legal.2) in
    rw (file_arguments file _ legal.0, number_arguments seed _ small, number_arguments count _ few, variant_read variant.Full)
    (rw (number_read 0 most_seed seed (omega arith) legal.1 small, number_read 0 most_drawn count (omega arith) legal.2 few) refl)
legal_written (aig file variant.Base) legal = rw (file_arguments file _ legal, variant_read variant.Base) refl
legal_written (aig file variant.Full) legal = rw (file_arguments file _ legal, variant_read variant.Full) refl
legal_written (aigrun file seed) legal =
    let small : seed < 2 ^ 64 = omega (arith, legal.1) in
    rw (file_arguments file _ legal.0, number_arguments seed _ small, no_arguments) (rw (number_read 0 most_seed seed (omega arith) legal.1 small) refl)
legal_written (big n file variant.Base) legal =
    let small : n < 2 ^ 64 = omega (arith, legal.1) in
    rw (number_arguments n _ small, file_arguments file _ legal.2, variant_read variant.Base) (rw (number_read 1 most_instructions n legal.0 legal.1 small) refl)
legal_written (big n file variant.Full) legal =
    let small : n < 2 ^ 64 = omega (arith, legal.1) in
    rw (number_arguments n _ small, file_arguments file _ legal.2, variant_read variant.Full) (rw (number_read 1 most_instructions n legal.0 legal.1 small) refl)

pub defaults_hold : (file : List ℕ) → IsFileName file →
    (form_of (codes "yas" ∷ file ∷ []) ≡ Some (yas file 8192 Base)) × (form_of (codes "yis" ∷ file ∷ []) ≡ Some (yis file 8192 10000 Base))
unfolding form_of first_fit
defaults_hold file name = (rw (file_arguments file [] name, no_arguments) refl, rw (file_arguments file [] name, no_arguments) refl)

-- ---- words that form a command

-- what is collected after more arguments
pub record Grows (f g : FoundSoFar) (more : List Argument) : Type 0 where
  pub words : f.words ++ places_of more ≡ g.words
  pub numbers : (s : OptionName) → option_to_list (get_or f.values (index_of s) None) ++ numbers_of s more ≡ option_to_list (get_or g.values (index_of s) None)

none_added : (rest : List Argument) (g : FoundSoFar) → all_added None rest ≡ Some g → ⊥
none_added [] g e = absurd (cc (e))
none_added (argument ∷ rest) g e = none_added rest g e

slot_after : (values : List (Option ℕ)) (s t : OptionName) (n : ℕ) (more : List ℕ) (b : Bool) → length values ≡ 6 → is_none (get_or values (index_of t) None) ≡ true →
    eqb (index_of s) (index_of t) ≡ b →
    option_to_list (get_or values (index_of s) None) ++ cond b (n ∷ more) more ≡ option_to_list (get_or (set values (index_of t) (Some n)) (index_of s) None) ++ more
slot_after values s t n more true all_slots empty e =
    let same : index_of s ≡ index_of t = eqb-true (index_of s) (index_of t) e in
    let inside : index_of t < length values = omega (arith, index_below t, all_slots) in
    rw (same, get_or-set_same values (index_of t) (Some n) None inside, is_nothing (get_or values (index_of t) None) empty) refl
  where
    is_nothing : (o : Option ℕ) → is_none o ≡ true → o ≡ None
    is_nothing None h = refl
    is_nothing (Some x) h = absurd (cc (h))
slot_after values s t n more false all_slots empty e =
    rw (get_or-set_other values (index_of t) (index_of s) (Some n) None (eqb-false (index_of s) (index_of t) e)) refl

grows_first : (f g : FoundSoFar) (w : List ℕ) (rest : List Argument) → Grows (record f { words = f.words ++ (w ∷ []) }) g rest → Grows f g (place w ∷ rest)
grows_first f g w rest h = record { words = sym (append_assoc f.words (w ∷ []) (places_of rest)) ∙ h.words; numbers = h.numbers }

grows_switch : (f g : FoundSoFar) (t : OptionName) (n : ℕ) (rest : List Argument) → length f.values ≡ 6 → is_none (get_or f.values (index_of t) None) ≡ true →
    Grows (record f { values = set f.values (index_of t) (Some n) }) g rest → Grows f g (switch t n ∷ rest)
grows_switch f g t n rest all_slots empty h = record {
  words = h.words;
  numbers = λ s. slot_after f.values s t n (numbers_of s rest) (eqb (index_of s) (index_of t)) all_slots empty refl ∙ h.numbers s;
}

grows : (more : List Argument) (f g : FoundSoFar) → length f.values ≡ 6 → all_added (Some f) more ≡ Some g → Grows f g more
grows [] f g all_slots e =
    let same : f ≡ g = cc (e) in
    let P : FoundSoFar → Type 0 = λ x. Grows f x [] in
    subst P same (record { words = append-nil f.words; numbers = λ s. append-nil _ })
grows (place w ∷ rest) f g all_slots e = at (ltb (length f.words) 3) (grows rest (record f { words = f.words ++ (w ∷ []) }) g all_slots) e
  where
    at : (b : Bool) → (all_added (Some (record f { words = f.words ++ (w ∷ []) })) rest ≡ Some g → Grows (record f { words = f.words ++ (w ∷ []) }) g rest) →
        all_added (cond b (Some (record f { words = f.words ++ (w ∷ []) })) None) rest ≡ Some g → Grows f g (place w ∷ rest)
    at true more e = grows_first f g w rest (more e)
    at false more e = absurd (none_added rest g e)
grows (switch t n ∷ rest) f g all_slots e =
    at (is_none (get_or f.values (index_of t) None)) refl
    (grows rest (record f { values = set f.values (index_of t) (Some n) }) g (length-set f.values (index_of t) (Some n) ∙ all_slots)) e
  where
    at : (b : Bool) → is_none (get_or f.values (index_of t) None) ≡ b →
        (all_added (Some (record f { values = set f.values (index_of t) (Some n) })) rest ≡ Some g → Grows (record f { values = set f.values (index_of t) (Some n) }) g rest) →
        all_added (cond b (Some (record f { values = set f.values (index_of t) (Some n) })) None) rest ≡ Some g → Grows f g (switch t n ∷ rest)
    at true empty more e = grows_switch f g t n rest all_slots empty (more e)
    at false empty more e = absurd (none_added rest g e)

nothing_at : (s : OptionName) → option_to_list (get_or nothing_filled.values (index_of s) None) ≡ []
nothing_at Full = refl
nothing_at Mem = refl
nothing_at Limit = refl
nothing_at Trace = refl
nothing_at Checked = refl
nothing_at Cert = refl

all_found : (found : List Argument) (f : FoundSoFar) → all_added (Some nothing_filled) found ≡ Some f → IsFound found f
all_found found f e =
    let g = grows found nothing_filled f refl e in
    record { words = g.words; numbers = λ s. ap (λ xs. xs ++ numbers_of s found) (sym (nothing_at s)) ∙ g.numbers s }

one_more : (first form : Form) (rows : List Form) → Contains rows form → Contains (first ∷ rows) form
one_more first form rows (k, inside, same) = (suc k, omega (arith, inside), same)

-- a row that fits the name and the collected arguments
Fit : List Form → List ℕ → FoundSoFar → Command → Type 0
Fit rows name f command = (form : Form) × Contains rows form × IsTrue (fits form name f) × (built_command form.kind f ≡ Some command)

fit_of : (rows : List Form) (name : List ℕ) (f : FoundSoFar) (command : Command) → first_fit rows name f ≡ Some command → Fit rows name f command
unfolding first_fit Fit
fit_of [] name f command e = absurd (cc (e))
fit_of (form ∷ rest) name f command e = at (fits form name f) refl (fit_of rest name f command) e
  where
    at : (b : Bool) → fits form name f ≡ b → (first_fit rest name f ≡ Some command → Fit rest name f command) →
        cond b (built_command form.kind f) (first_fit rest name f) ≡ Some command → Fit (form ∷ rest) name f command
    at true fit more e = (form, (0, omega arith, refl), fit, e)
    at false fit more e = let behind = more e in (behind.0, one_more form behind.0 rest behind.1, behind.2, behind.3)

form_at : (name : List ℕ) (rest : List (List ℕ)) (read : Option (List Argument)) (command : Command) → arguments rest ≡ read →
    option_and_then (first_fit forms name) (option_and_then (all_added (Some nothing_filled)) read) ≡ Some command → HasForm name rest command
unfolding Fit
form_at name rest None command are e = absurd (cc (e))
form_at name rest (Some read) command are e = at (all_added (Some nothing_filled) read) refl e
  where
    at : (f : Option FoundSoFar) → all_added (Some nothing_filled) read ≡ f → option_and_then (first_fit forms name) f ≡ Some command → HasForm name rest command
    at None all e = absurd (cc (e))
    at (Some f) all e =
        let fit = fit_of forms name f command e in
        record { read = read; are = are; found = f; is_found = all_found read f all; form = fit.0; is_row = fit.1; fits = fit.2; is_command = fit.3 }

-- words that form a command have the name, the places and the options of a row, each option at most once
pub has_form : (name : List ℕ) (rest : List (List ℕ)) (command : Command) → form_of (name ∷ rest) ≡ Some command → HasForm name rest command
unfolding form_of
has_form name rest command e = form_at name rest (arguments rest) command refl e
