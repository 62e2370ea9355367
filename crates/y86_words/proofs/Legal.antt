-- The command that words form is legal.
use Rattle.std.proofs.Common.{◌≡◌, ℕ, ◌%◌, Bool, true, false, cond, ◌&&◌, nat_le, nat_eq, List, [], ◌∷◌, get_or, slice_get, unwrap_or, refl, subst, Option, Some, None, option_and_then, lit≤, arith, ◌≤◌}
use Rattle.std.proofs.lemmas.Bool.{eqb-true, leb-true, and_parts}
use Rattle.std.specs.List.{AllByRecursion}
use Rattle.std.specs.Option.{option_map, option_to_list}
use Rattle.y86_base.specs.Image.{IsSize, is_image_size}
use Rattle.y86_base.specs.declared.parts.Variant.{Variant}
use Rattle.y86_words.specs.declared.form.CommandKind.{CommandKind}
use Rattle.y86_words.specs.declared.form.CommandKind.TheVariants.{Yas, Yis, Hcl, Ssim, Ssimp, Psim, CheckSeq, CheckPlus, CheckPipe, CertifyPipe, Recheck, Sample, Aig, Aigrun, Big}
use Rattle.y86_words.specs.declared.option.OptionName.{OptionName}
use Rattle.y86_words.specs.declared.option.OptionName.TheVariants.{Full, Mem, Limit, Trace, Checked, Cert}
use Rattle.y86_words.specs.Arguments.{Argument, place, switch, WordReading, whole, needs, neither, reading_of, option_reading, place_reading, in_front, last, before, arguments, index_of, is_option, switch_of, FoundSoFar}
use Rattle.y86_words.specs.Forms.{Command, yas, yis, hcl, ssim, ssimp, psim, check_seq, check_plus, check_pipe, certify_pipe, recheck, form_of, built_command, size_of, limit_of, trace_of, checked_of, variant_of, sample, most_drawn, most_seed, number_at, aig, aigrun, big, most_instructions}
use Rattle.y86_words.specs.Numbers.{number_of, is_run_limit, number_within}
use Rattle.y86_words.specs.Wording.{IsFileName, IsRunLimit, IsInRange, places_of, numbers_of, IsFound}
use Rattle.y86_words.proofs.Wording.{has_form}

-- ---- the arguments of words are legal

-- the numbers of an option that takes a number
abbrev IsNumberOf : OptionName → ℕ → Type 0
IsNumberOf Full n = Unit {0}
IsNumberOf Mem n = IsSize n
IsNumberOf Limit n = IsRunLimit n
IsNumberOf Trace n = Unit {0}
IsNumberOf Checked n = Unit {0}
IsNumberOf Cert n = Unit {0}

abbrev IsLegalArgument : Argument → Type 0
IsLegalArgument (place word) = IsFileName word
IsLegalArgument (switch s n) = IsNumberOf s n

abbrev AllLegal : List Argument → Type 0
AllLegal read = AllByRecursion IsLegalArgument read

-- the reading of a word is legal
abbrev IsLegalReading : WordReading → Type 0
IsLegalReading (whole argument) = IsLegalArgument argument
IsLegalReading (needs s passes) = (n : ℕ) → passes n ≡ true → IsNumberOf s n
IsLegalReading neither = Unit {0}

size_is : (n : ℕ) → is_image_size n ≡ true → IsSize n
unfolding is_image_size
size_is n h =
    let a = and_parts (nat_le 64 n && nat_le n 1048576) (nat_eq (n % 8) 0) h in
    let b = and_parts (nat_le 64 n) (nat_le n 1048576) a.0 in
    record { least = leb-true 64 n b.0; most = leb-true n 1048576 b.1; whole_words = eqb-true (n % 8) 0 a.1 }

limit_is : (n : ℕ) → is_run_limit n ≡ true → IsRunLimit n
limit_is n h = let a = and_parts (nat_le 1 n) (nat_le n 100000000) h in (leb-true 1 n a.0, leb-true n 100000000 a.1)

option_legal : (o : Option OptionName) → IsLegalReading (option_reading o)
option_legal None = tt
option_legal (Some Full) = tt
option_legal (Some Mem) = size_is
option_legal (Some Limit) = limit_is
option_legal (Some Trace) = tt
option_legal (Some Checked) = tt
option_legal (Some Cert) = tt

place_legal : (word : List ℕ) → is_option word ≡ false → IsLegalReading (place_reading word)
place_legal [] other = tt
place_legal (first ∷ word) other = (omega arith, other)

reading_legal : (word : List ℕ) → IsLegalReading (reading_of word)
reading_legal word = at (is_option word) refl
  where
    at : (b : Bool) → is_option word ≡ b → IsLegalReading (cond b (option_reading (switch_of word)) (place_reading word))
    at true option = option_legal (switch_of word)
    at false other = place_legal word other

in_front_legal : (argument : Argument) (others : Option (List Argument)) (read : List Argument) → in_front (Some argument) others ≡ Some read →
    IsLegalArgument argument → ((rest : List Argument) → others ≡ Some rest → AllLegal rest) → AllLegal read
in_front_legal argument None read e p q = absurd (cc (e))
in_front_legal argument (Some rest) read e p q =
    let same : argument ∷ rest ≡ read = cc (e) in subst AllLegal same (p, q rest refl)

-- the number of an option is one that passes the option's test
number_legal : (s : OptionName) (passes : ℕ → Bool) (number : Option ℕ) (others : Option (List Argument)) (read : List Argument) →
    in_front (option_map (switch s) (option_and_then (λ n. cond (passes n) (Some n) None) number)) others ≡ Some read →
    ((n : ℕ) → passes n ≡ true → IsNumberOf s n) → ((rest : List Argument) → others ≡ Some rest → AllLegal rest) → AllLegal read
number_legal s passes None others read e p q = absurd (cc (e))
number_legal s passes (Some n) others read e p q = at (passes n) refl e
  where
    at : (b : Bool) → passes n ≡ b → in_front (option_map (switch s) (cond b (Some n) None)) others ≡ Some read → AllLegal read
    at true passed e = in_front_legal (switch s n) others read e (p n passed) q
    at false failed e = absurd (cc (e))

last_legal : (reading : WordReading) (read : List Argument) → IsLegalReading reading → last reading ≡ Some read → AllLegal read
last_legal (whole argument) read p e = let same : argument ∷ [] ≡ read = cc (e) in subst AllLegal same (p, tt)
last_legal (needs s passes) read p e = absurd (cc (e))
last_legal neither read p e = absurd (cc (e))

before_legal : (reading : WordReading) (next : List ℕ) (behind from : Option (List Argument)) (read : List Argument) → IsLegalReading reading →
    before reading next behind from ≡ Some read → ((rest : List Argument) → behind ≡ Some rest → AllLegal rest) → ((rest : List Argument) → from ≡ Some rest → AllLegal rest) →
    AllLegal read
before_legal (whole argument) next behind from read p e q r = in_front_legal argument from read e p r
before_legal (needs s passes) next behind from read p e q r = number_legal s passes (number_of next) behind read e p q
before_legal neither next behind from read p e q r = absurd (cc (e))

arguments_legal : (words : List (List ℕ)) (read : List Argument) → arguments words ≡ Some read → AllLegal read
unfolding arguments
arguments_legal [] read e = let same : [] ≡ read = cc (e) in subst AllLegal same tt
arguments_legal (word ∷ []) read e = last_legal (reading_of word) read (reading_legal word) e
arguments_legal (word ∷ next ∷ rest) read e =
    before_legal (reading_of word) next (arguments rest) (arguments (next ∷ rest)) read (reading_legal word) e (arguments_legal rest) (arguments_legal (next ∷ rest))

-- ---- what was collected from them is legal

places_legal : (read : List Argument) → AllLegal read → AllByRecursion IsFileName (places_of read)
places_legal [] h = tt
places_legal (place word ∷ rest) h = (h.0, places_legal rest h.1)
places_legal (switch s n ∷ rest) h = places_legal rest h.1

same_switch : (s t : OptionName) → nat_eq (index_of s) (index_of t) ≡ true → t ≡ s
same_switch Full Full e = refl
same_switch Full Mem e = absurd (cc (e))
same_switch Full Limit e = absurd (cc (e))
same_switch Mem Full e = absurd (cc (e))
same_switch Mem Mem e = refl
same_switch Mem Limit e = absurd (cc (e))
same_switch Limit Full e = absurd (cc (e))
same_switch Limit Mem e = absurd (cc (e))
same_switch Limit Limit e = refl
same_switch Full Trace e = absurd (cc (e))
same_switch Mem Trace e = absurd (cc (e))
same_switch Limit Trace e = absurd (cc (e))
same_switch Trace Full e = absurd (cc (e))
same_switch Trace Mem e = absurd (cc (e))
same_switch Trace Limit e = absurd (cc (e))
same_switch Trace Trace e = refl
same_switch Full Checked e = absurd (cc (e))
same_switch Checked Full e = absurd (cc (e))
same_switch Mem Checked e = absurd (cc (e))
same_switch Checked Mem e = absurd (cc (e))
same_switch Limit Checked e = absurd (cc (e))
same_switch Checked Limit e = absurd (cc (e))
same_switch Trace Checked e = absurd (cc (e))
same_switch Checked Trace e = absurd (cc (e))
same_switch Checked Checked e = refl
same_switch Full Cert e = absurd (cc (e))
same_switch Cert Full e = absurd (cc (e))
same_switch Mem Cert e = absurd (cc (e))
same_switch Cert Mem e = absurd (cc (e))
same_switch Limit Cert e = absurd (cc (e))
same_switch Cert Limit e = absurd (cc (e))
same_switch Trace Cert e = absurd (cc (e))
same_switch Cert Trace e = absurd (cc (e))
same_switch Checked Cert e = absurd (cc (e))
same_switch Cert Checked e = absurd (cc (e))
same_switch Cert Cert e = refl

numbers_legal : (s : OptionName) (read : List Argument) → AllLegal read → AllByRecursion (IsNumberOf s) (numbers_of s read)
numbers_legal s [] h = tt
numbers_legal s (place word ∷ rest) h = numbers_legal s rest h.1
numbers_legal s (switch t n ∷ rest) h = at (nat_eq (index_of s) (index_of t)) refl (numbers_legal s rest h.1)
  where
    at : (b : Bool) → nat_eq (index_of s) (index_of t) ≡ b → AllByRecursion (IsNumberOf s) (numbers_of s rest) → AllByRecursion (IsNumberOf s) (cond b (n ∷ numbers_of s rest) (numbers_of s rest))
    at true e more = let P : OptionName → Type 0 = λ x. IsNumberOf x n in (subst P (same_switch s t e) h.0, more)
    at false e more = more

-- the number, or the default without one
one_legal : (P : ℕ → Type 0) (default : ℕ) (number : Option ℕ) → P default → AllByRecursion P (option_to_list number) → P (unwrap_or number default)
one_legal P default None d h = d
one_legal P default (Some n) d h = h.0

first_legal : (words : List (List ℕ)) (word : List ℕ) → AllByRecursion IsFileName words → slice_get words 0 ≡ Some word → IsFileName word
first_legal [] word h e = absurd (cc (e))
first_legal (first ∷ rest) word h e = let same : first ≡ word = cc (e) in subst IsFileName same h.0

default_size : IsSize 8192
default_size = record { least = lit≤ tt; most = lit≤ tt; whole_words = refl }

-- the collected arguments are legal
record IsLegalFound (f : FoundSoFar) : Type 0 where
  words : AllByRecursion IsFileName f.words
  size : IsSize (size_of f)
  limit : IsRunLimit (limit_of f)

found_legal : (read : List Argument) (f : FoundSoFar) → IsFound read f → AllLegal read → IsLegalFound f
found_legal read f found legal =
    let of_switch = λ (s : OptionName). subst (AllByRecursion (IsNumberOf s)) (found.numbers s) (numbers_legal s read legal) in
    record {
      words = subst (AllByRecursion IsFileName) found.words (places_legal read legal);
      size = one_legal IsSize 8192 (get_or f.values 1 None) default_size (of_switch Mem);
      limit = one_legal IsRunLimit 10000 (get_or f.values 2 None) (lit≤ tt, lit≤ tt) (of_switch Limit);
    }

-- ---- and so are the commands

yas_legal : (v : Variant) (f : FoundSoFar) (word : Option (List ℕ)) (command : Command) → slice_get f.words 0 ≡ word → option_map (λ source. yas source (size_of f) v) word ≡ Some command →
    IsLegalFound f → IsInRange command
yas_legal v f None command e made_is legal = absurd (cc (made_is))
yas_legal v f (Some word) command e made_is legal =
    let same : yas word (size_of f) v ≡ command = cc (made_is) in subst IsInRange same (first_legal f.words word legal.words e, legal.size)

yis_legal : (v : Variant) (f : FoundSoFar) (word : Option (List ℕ)) (command : Command) → slice_get f.words 0 ≡ word → option_map (λ object. yis object (size_of f) (limit_of f) v) word ≡ Some command →
    IsLegalFound f → IsInRange command
yis_legal v f None command e made_is legal = absurd (cc (made_is))
yis_legal v f (Some word) command e made_is legal =
    let same : yis word (size_of f) (limit_of f) v ≡ command = cc (made_is) in subst IsInRange same (first_legal f.words word legal.words e, legal.size, legal.limit)

hcl_legal : (f : FoundSoFar) (word : Option (List ℕ)) (command : Command) → slice_get f.words 0 ≡ word → option_map hcl word ≡ Some command →
    IsLegalFound f → IsInRange command
hcl_legal f None command e made_is legal = absurd (cc (made_is))
hcl_legal f (Some word) command e made_is legal =
    let same : hcl word ≡ command = cc (made_is) in subst IsInRange same (first_legal f.words word legal.words e)

second_legal : (words : List (List ℕ)) (word : List ℕ) → AllByRecursion IsFileName words → slice_get words 1 ≡ Some word → IsFileName word
second_legal [] word h e = absurd (cc (e))
second_legal (first ∷ rest) word h e = first_legal rest word h.1 e

sequential_legal : (make : List ℕ → List ℕ → ℕ → ℕ → Variant → Command) →
    ((name object : List ℕ) (size limit : ℕ) (v : Variant) → IsFileName name × IsFileName object × IsSize size × IsRunLimit limit → IsInRange (make name object size limit v)) →
    (v : Variant) (f : FoundSoFar) (name object : Option (List ℕ)) (command : Command) → slice_get f.words 0 ≡ name → slice_get f.words 1 ≡ object →
    option_and_then (λ file. option_map (λ o. make file o (size_of f) (limit_of f) v) object) name ≡ Some command → IsLegalFound f → IsInRange command
sequential_legal make legal_as v f None object command e d made_is legal = absurd (cc (made_is))
sequential_legal make legal_as v f (Some name) None command e d made_is legal = absurd (cc (made_is))
sequential_legal make legal_as v f (Some name) (Some object) command e d made_is legal =
    let same : make name object (size_of f) (limit_of f) v ≡ command = cc (made_is) in
    subst IsInRange same (legal_as name object (size_of f) (limit_of f) v (first_legal f.words name legal.words e, second_legal f.words object legal.words d, legal.size, legal.limit))

psim_legal : (v : Variant) (trace checked : Bool) (f : FoundSoFar) (name object : Option (List ℕ)) (command : Command) → slice_get f.words 0 ≡ name → slice_get f.words 1 ≡ object →
    option_and_then (λ file. option_map (λ o. psim file o (size_of f) (limit_of f) trace checked v) object) name ≡ Some command → IsLegalFound f → IsInRange command
psim_legal v trace checked f None object command e d made_is legal = absurd (cc (made_is))
psim_legal v trace checked f (Some name) None command e d made_is legal = absurd (cc (made_is))
psim_legal v trace checked f (Some name) (Some object) command e d made_is legal =
    let same : psim name object (size_of f) (limit_of f) trace checked v ≡ command = cc (made_is) in
    subst IsInRange same (first_legal f.words name legal.words e, second_legal f.words object legal.words d, legal.size, legal.limit)

recheck_legal : (v : Variant) (f : FoundSoFar) (name cert : Option (List ℕ)) (command : Command) → slice_get f.words 0 ≡ name → slice_get f.words 1 ≡ cert →
    option_and_then (λ file. option_map (λ c. recheck file c v) cert) name ≡ Some command → IsLegalFound f → IsInRange command
recheck_legal v f None cert command e d made_is legal = absurd (cc (made_is))
recheck_legal v f (Some name) None command e d made_is legal = absurd (cc (made_is))
recheck_legal v f (Some name) (Some cert) command e d made_is legal =
    let same : recheck name cert v ≡ command = cc (made_is) in
    subst IsInRange same (first_legal f.words name legal.words e, second_legal f.words cert legal.words d)

check_legal : (make : List ℕ → Command) → ((word : List ℕ) → IsFileName word → IsInRange (make word)) → (f : FoundSoFar) (word : Option (List ℕ)) (command : Command) →
    slice_get f.words 1 ≡ word → option_map make word ≡ Some command → IsLegalFound f → IsInRange command
check_legal make legal_as f None command e made_is legal = absurd (cc (made_is))
check_legal make legal_as f (Some word) command e made_is legal =
    let same : make word ≡ command = cc (made_is) in subst IsInRange same (legal_as word (second_legal f.words word legal.words e))

-- a number within a range
within_legal : (least most : ℕ) (number : Option ℕ) (n : ℕ) → option_and_then (λ n. cond (nat_le least n && nat_le n most) (Some n) None) number ≡ Some n → (least ≤ n) × (n ≤ most)
within_legal least most None n e = absurd (cc (e))
within_legal least most (Some m) n e = at (nat_le least m && nat_le m most) refl e
  where
    at : (b : Bool) → (nat_le least m && nat_le m most) ≡ b → cond b (Some m) None ≡ Some n → (least ≤ n) × (n ≤ most)
    at true passed e =
        let a = and_parts (nat_le least m) (nat_le m most) passed in
        let same : m ≡ n = cc (e) in
        let P : ℕ → Type 0 = λ x. (least ≤ x) × (x ≤ most) in subst P same (leb-true least m a.0, leb-true m most a.1)
    at false failed e = absurd (cc (e))

number_in_place : (least most at : ℕ) (f : FoundSoFar) (n : ℕ) → number_at least most at f ≡ Some n → (least ≤ n) × (n ≤ most)
number_in_place least most at f n e = of_word (slice_get f.words at) e
  where
    of_word : (word : Option (List ℕ)) → option_and_then (number_within least most) word ≡ Some n → (least ≤ n) × (n ≤ most)
    of_word None e = absurd (cc (e))
    of_word (Some word) e = within_legal least most (number_of word) n e

sample_legal : (v : Variant) (f : FoundSoFar) (name : Option (List ℕ)) (seed count : Option ℕ) (command : Command) → slice_get f.words 0 ≡ name →
    number_at 0 most_seed 1 f ≡ seed → number_at 0 most_drawn 2 f ≡ count →
    option_and_then (λ file. option_and_then (λ s. option_map (λ c. sample file s c v) count) seed) name ≡ Some command → IsLegalFound f → IsInRange command
sample_legal v f None seed count command e d c made_is legal = absurd (cc (made_is))
sample_legal v f (Some name) None count command e d c made_is legal = absurd (cc (made_is))
sample_legal v f (Some name) (Some seed) None command e d c made_is legal = absurd (cc (made_is))
sample_legal v f (Some name) (Some seed) (Some count) command e d c made_is legal =
    let same : sample name seed count v ≡ command = cc (made_is) in
    subst IsInRange same (first_legal f.words name legal.words e, (number_in_place 0 most_seed 1 f seed d).1, (number_in_place 0 most_drawn 2 f count c).1)

aig_legal : (v : Variant) (f : FoundSoFar) (word : Option (List ℕ)) (command : Command) → slice_get f.words 0 ≡ word → option_map (λ file. aig file v) word ≡ Some command →
    IsLegalFound f → IsInRange command
aig_legal v f None command e made_is legal = absurd (cc (made_is))
aig_legal v f (Some word) command e made_is legal =
    let same : aig word v ≡ command = cc (made_is) in subst IsInRange same (first_legal f.words word legal.words e)

aigrun_legal : (f : FoundSoFar) (name : Option (List ℕ)) (seed : Option ℕ) (command : Command) → slice_get f.words 0 ≡ name → number_at 0 most_seed 1 f ≡ seed →
    option_and_then (λ file. option_map (aigrun file) seed) name ≡ Some command → IsLegalFound f → IsInRange command
aigrun_legal f None seed command e d made_is legal = absurd (cc (made_is))
aigrun_legal f (Some name) None command e d made_is legal = absurd (cc (made_is))
aigrun_legal f (Some name) (Some seed) command e d made_is legal =
    let same : aigrun name seed ≡ command = cc (made_is) in
    subst IsInRange same (first_legal f.words name legal.words e, (number_in_place 0 most_seed 1 f seed d).1)

big_legal : (v : Variant) (f : FoundSoFar) (number : Option ℕ) (name : Option (List ℕ)) (command : Command) → number_at 1 most_instructions 0 f ≡ number → slice_get f.words 1 ≡ name →
    option_and_then (λ n. option_map (λ file. big n file v) name) number ≡ Some command → IsLegalFound f → IsInRange command
big_legal v f None name command e d made_is legal = absurd (cc (made_is))
big_legal v f (Some n) None command e d made_is legal = absurd (cc (made_is))
big_legal v f (Some n) (Some name) command e d made_is legal =
    let same : big n name v ≡ command = cc (made_is) in
    let range = number_in_place 1 most_instructions 0 f n e in
    subst IsInRange same (range.0, range.1, second_legal f.words name legal.words d)

made_legal : (kind : CommandKind) (f : FoundSoFar) (command : Command) → built_command kind f ≡ Some command → IsLegalFound f → IsInRange command
made_legal Yas f command e legal = yas_legal (variant_of f) f (slice_get f.words 0) command refl e legal
made_legal Yis f command e legal = yis_legal (variant_of f) f (slice_get f.words 0) command refl e legal
made_legal Hcl f command e legal = hcl_legal f (slice_get f.words 0) command refl e legal
made_legal Ssim f command e legal = sequential_legal ssim (λ name object size limit v is. is) (variant_of f) f (slice_get f.words 0) (slice_get f.words 1) command refl refl e legal
made_legal Ssimp f command e legal = sequential_legal ssimp (λ name object size limit v is. is) (variant_of f) f (slice_get f.words 0) (slice_get f.words 1) command refl refl e legal
made_legal Psim f command e legal = psim_legal (variant_of f) (trace_of f) (checked_of f) f (slice_get f.words 0) (slice_get f.words 1) command refl refl e legal
made_legal CheckSeq f command e legal = check_legal (λ file. check_seq file (variant_of f)) (λ word named. named) f (slice_get f.words 1) command refl e legal
made_legal CheckPlus f command e legal = check_legal (λ file. check_plus file (variant_of f)) (λ word named. named) f (slice_get f.words 1) command refl e legal
made_legal CheckPipe f command e legal = check_legal (λ file. check_pipe file (variant_of f)) (λ word named. named) f (slice_get f.words 1) command refl e legal
made_legal CertifyPipe f command e legal = check_legal (λ file. certify_pipe file (variant_of f)) (λ word named. named) f (slice_get f.words 1) command refl e legal
made_legal Recheck f command e legal = recheck_legal (variant_of f) f (slice_get f.words 0) (slice_get f.words 1) command refl refl e legal
made_legal Sample f command e legal = sample_legal (variant_of f) f (slice_get f.words 0) (number_at 0 most_seed 1 f) (number_at 0 most_drawn 2 f) command refl refl refl e legal
made_legal Aig f command e legal = aig_legal (variant_of f) f (slice_get f.words 0) command refl e legal
made_legal Aigrun f command e legal = aigrun_legal f (slice_get f.words 0) (number_at 0 most_seed 1 f) command refl refl e legal
made_legal Big f command e legal = big_legal (variant_of f) f (number_at 1 most_instructions 0 f) (slice_get f.words 1) command refl refl e legal

no_words : (command : Command) → form_of [] ≡ Some command → ⊥
unfolding form_of
no_words command e = absurd (cc (e))

pub form_legal : (words : List (List ℕ)) (command : Command) → form_of words ≡ Some command → IsInRange command
form_legal [] command e = absurd (no_words command e)
form_legal (name ∷ rest) command e =
    let form = has_form name rest command e in
    made_legal form.form.kind form.found command form.is_command (found_legal form.read form.found form.is_found (arguments_legal rest form.read form.are))
