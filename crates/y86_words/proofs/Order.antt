-- Options may occur anywhere after the name.
use Rattle.std.proofs.Common.{◌≡◌, ◌≢◌, ℕ, ◌<◌, Bool, true, false, cond, eqb, is_none, ltb, List, [], ◌∷◌, ◌++◌, length, get_or, set, refl, sym, ap, ◌∙◌, Option, Some, None, option_and_then, arith}
use Rattle.std.proofs.lemmas.Bool.{eqb-true, eqb-false}
use Rattle.std.proofs.lemmas.List.{get_or-set_same, get_or-set_other, length-set, set_comm}
use Rattle.std.specs.Option.{option_map}
use Rattle.y86_words.specs.declared.option.OptionName.{OptionName}
use Rattle.y86_words.specs.Arguments.{Argument, place, switch, WordReading, whole, needs, neither, reading_of, in_front, arguments, index_of, FoundSoFar, nothing_filled, added, all_added}
use Rattle.y86_words.specs.Forms.{forms, first_fit, form_of}
use Rattle.y86_words.specs.Numbers.{number_that}
use Rattle.y86_words.specs.Wording.{AreArguments, AreOptions, places_of}
use Rattle.y86_words.proofs.Arguments.{index_below}

-- ---- the arguments of words in front of other words

-- arguments in front of others, if the others could be read
abbrev in_front_all : List Argument → Option (List Argument) → Option (List Argument)
in_front_all done None = None
in_front_all done (Some others) = Some (done ++ others)

none_in_front : (others : Option (List Argument)) → in_front_all [] others ≡ others
none_in_front None = refl
none_in_front (Some others) = refl

one_in_front : (argument : Argument) (done : List Argument) (others : Option (List Argument)) →
    in_front (Some argument) (in_front_all done others) ≡ in_front_all (argument ∷ done) others
one_in_front argument done None = refl
one_in_front argument done (Some others) = refl

-- an argument in front of others
split : (first : Option Argument) (others : Option (List Argument)) (done : List Argument) → in_front first others ≡ Some done →
    (argument : Argument) × (rest : List Argument) × (first ≡ Some argument) × (others ≡ Some rest) × (done ≡ argument ∷ rest)
split None others done e = absurd (cc (e))
split (Some argument) None done e = absurd (cc (e))
split (Some argument) (Some rest) done e = (argument, rest, refl, refl, cc (e))

whole_first : (word : List ℕ) (rest : List (List ℕ)) (argument : Argument) → reading_of word ≡ whole argument →
    arguments (word ∷ rest) ≡ in_front (Some argument) (arguments rest)
unfolding arguments
whole_first word [] argument is = rw is refl
whole_first word (next ∷ rest) argument is = rw is refl

needs_first : (word value : List ℕ) (rest : List (List ℕ)) (s : OptionName) (passes : ℕ → Bool) → reading_of word ≡ needs s passes →
    arguments (word ∷ value ∷ rest) ≡ in_front (option_map (switch s) (number_that passes value)) (arguments rest)
unfolding arguments
needs_first word value rest s passes is = rw is refl

not_last : (word : List ℕ) (s : OptionName) (passes : ℕ → Bool) → reading_of word ≡ needs s passes → arguments (word ∷ []) ≡ None
unfolding arguments
not_last word s passes is = rw is refl

no_argument : (word : List ℕ) (rest : List (List ℕ)) → reading_of word ≡ neither → arguments (word ∷ rest) ≡ None
unfolding arguments
no_argument word [] is = rw is refl
no_argument word (next ∷ rest) is = rw is refl

-- a first argument, and those of the words after it
behind : (first : Option Argument) (rest back words : List (List ℕ)) (done : List Argument) → in_front first (arguments rest) ≡ Some done →
    arguments words ≡ in_front first (arguments (rest ++ back)) →
    ((others : List Argument) → arguments rest ≡ Some others → arguments (rest ++ back) ≡ in_front_all others (arguments back)) →
    arguments words ≡ in_front_all done (arguments back)
behind first rest back words done e is more =
    let parts = split first (arguments rest) done e in
    is ∙ ap (λ o. in_front o (arguments (rest ++ back))) parts.2 ∙ ap (in_front (Some parts.0)) (more parts.1 parts.3)
    ∙ one_in_front parts.0 parts.1 (arguments back) ∙ ap (λ d. in_front_all d (arguments back)) (sym parts.4)

nothing : (done : List Argument) → arguments [] ≡ Some done → [] ≡ done
unfolding arguments
nothing done e = cc (e)

-- the arguments of words come before those of the words after them
all_in_front : (front back : List (List ℕ)) (done : List Argument) → arguments front ≡ Some done → arguments (front ++ back) ≡ in_front_all done (arguments back)
all_in_front [] back done e = sym (none_in_front (arguments back)) ∙ ap (λ d. in_front_all d (arguments back)) (nothing done e)
all_in_front (word ∷ []) back done e = at (reading_of word) refl (all_in_front [] back)
  where
    at : (r : WordReading) → reading_of word ≡ r → ((others : List Argument) → arguments [] ≡ Some others → arguments back ≡ in_front_all others (arguments back)) →
        arguments (word ∷ back) ≡ in_front_all done (arguments back)
    at (whole argument) is more = behind (Some argument) [] back (word ∷ back) done (sym (whole_first word [] argument is) ∙ e) (whole_first word back argument is) more
    at (needs s passes) is more = absurd (cc (e, not_last word s passes is))
    at neither is more = absurd (cc (e, no_argument word [] is))
all_in_front (word ∷ next ∷ rest) back done e = at (reading_of word) refl (all_in_front rest back) (all_in_front (next ∷ rest) back)
  where
    at : (r : WordReading) → reading_of word ≡ r → ((others : List Argument) → arguments rest ≡ Some others → arguments (rest ++ back) ≡ in_front_all others (arguments back)) →
        ((others : List Argument) → arguments (next ∷ rest) ≡ Some others → arguments (next ∷ (rest ++ back)) ≡ in_front_all others (arguments back)) →
        arguments (word ∷ next ∷ (rest ++ back)) ≡ in_front_all done (arguments back)
    at (whole argument) is short long =
        behind (Some argument) (next ∷ rest) back (word ∷ next ∷ (rest ++ back)) done (sym (whole_first word (next ∷ rest) argument is) ∙ e)
        (whole_first word (next ∷ (rest ++ back)) argument is) long
    at (needs s passes) is short long =
        behind (option_map (switch s) (number_that passes next)) rest back (word ∷ next ∷ (rest ++ back)) done (sym (needs_first word next rest s passes is) ∙ e)
        (needs_first word next (rest ++ back) s passes is) short
    at neither is short long = absurd (cc (e, no_argument word (next ∷ rest) is))

-- ---- an option and another argument, in either order

and_added : Argument → Option FoundSoFar → Option FoundSoFar
and_added argument = option_and_then (λ f. added f argument)

with_place : (f : FoundSoFar) (s : OptionName) (n : ℕ) (word : List ℕ) (b c : Bool) → is_none (get_or f.values (index_of s) None) ≡ b → ltb (length f.words) 3 ≡ c →
    and_added (place word) (added f (switch s n)) ≡ and_added (switch s n) (added f (place word))
unfolding and_added
with_place f s n word true true e1 e2 = rw (e1, e2) (rw e1 refl)
with_place f s n word true false e1 e2 = rw (e1, e2) refl
with_place f s n word false true e1 e2 = rw (e1, e2) (rw e1 refl)
with_place f s n word false false e1 e2 = rw (e1, e2) refl

-- an option twice
twice : (f : FoundSoFar) (s t : OptionName) (n m : ℕ) (b : Bool) → index_of t ≡ index_of s → length f.values ≡ 6 → is_none (get_or f.values (index_of s) None) ≡ b →
    and_added (switch t m) (added f (switch s n)) ≡ None
unfolding and_added
twice f s t n m true same all_slots e =
    let inside : index_of s < length f.values = omega (arith, index_below s, all_slots) in
    rw e (rw (same, get_or-set_same f.values (index_of s) (Some n) None inside) refl)
twice f s t n m false same all_slots e = rw e refl

-- two options
apart : (f : FoundSoFar) (s t : OptionName) (n m : ℕ) (b c : Bool) → index_of t ≢ index_of s → is_none (get_or f.values (index_of s) None) ≡ b →
    is_none (get_or f.values (index_of t) None) ≡ c → and_added (switch t m) (added f (switch s n)) ≡ and_added (switch s n) (added f (switch t m))
unfolding and_added
apart f s t n m true true other e1 e2 =
    rw (e1, e2)
    (rw (get_or-set_other f.values (index_of s) (index_of t) (Some n) None other, get_or-set_other f.values (index_of t) (index_of s) (Some m) None (λ e. other (sym e)))
    (rw (e1, e2) (rw (set_comm f.values (index_of s) (index_of t) (Some n) (Some m) (λ e. other (sym e))) refl)))
apart f s t n m true false other e1 e2 =
    rw (e1, e2) (rw (get_or-set_other f.values (index_of s) (index_of t) (Some n) None other) (rw e2 refl))
apart f s t n m false true other e1 e2 =
    rw (e1, e2) (rw (get_or-set_other f.values (index_of t) (index_of s) (Some m) None (λ e. other (sym e))) (rw e1 refl))
apart f s t n m false false other e1 e2 = rw (e1, e2) refl

exchanged : (f : FoundSoFar) (s : OptionName) (n : ℕ) (argument : Argument) → length f.values ≡ 6 →
    and_added argument (added f (switch s n)) ≡ and_added (switch s n) (added f argument)
exchanged f s n (place word) all_slots = with_place f s n word _ _ refl refl
exchanged f s n (switch t m) all_slots = at (eqb (index_of t) (index_of s)) refl
  where
    at : (b : Bool) → eqb (index_of t) (index_of s) ≡ b → and_added (switch t m) (added f (switch s n)) ≡ and_added (switch s n) (added f (switch t m))
    at true e =
        let same = eqb-true (index_of t) (index_of s) e in
        twice f s t n m _ same all_slots refl ∙ sym (twice f t s m n _ (sym same) all_slots refl)
    at false e = apart f s t n m _ _ (eqb-false (index_of t) (index_of s) e) refl refl

-- ---- options before other arguments, or after them

abbrev HasAll : Option FoundSoFar → Type 0
HasAll None = Unit {0}
HasAll (Some f) = length f.values ≡ 6

added_all : (f : FoundSoFar) (argument : Argument) → length f.values ≡ 6 → HasAll (added f argument)
added_all f (place word) all_slots = at (ltb (length f.words) 3)
  where
    at : (b : Bool) → HasAll (cond b (Some (record f { words = f.words ++ word ∷ [] })) None)
    at true = all_slots
    at false = tt
added_all f (switch s n) all_slots = at (is_none (get_or f.values (index_of s) None))
  where
    at : (b : Bool) → HasAll (cond b (Some (record f { values = set f.values (index_of s) (Some n) })) None)
    at true = length-set f.values (index_of s) (Some n) ∙ all_slots
    at false = tt

still_all : (f : Option FoundSoFar) (argument : Argument) → HasAll f → HasAll (and_added argument f)
unfolding and_added
still_all None argument all_slots = tt
still_all (Some f) argument all_slots = added_all f argument all_slots

one_exchanged : (f : Option FoundSoFar) (s : OptionName) (n : ℕ) (argument : Argument) → HasAll f →
    and_added argument (and_added (switch s n) f) ≡ and_added (switch s n) (and_added argument f)
unfolding and_added
one_exchanged None s n argument all_slots = refl
one_exchanged (Some f) s n argument all_slots = exchanged f s n argument all_slots

next_added : (f : Option FoundSoFar) (argument : Argument) (rest : List Argument) → all_added f (argument ∷ rest) ≡ all_added (and_added argument f) rest
unfolding and_added
next_added f argument rest = refl

-- one option, before others or after them
moved : (others : List Argument) (f : Option FoundSoFar) (s : OptionName) (n : ℕ) → HasAll f →
    all_added (and_added (switch s n) f) others ≡ and_added (switch s n) (all_added f others)
moved [] f s n all_slots = refl
moved (argument ∷ others) f s n all_slots =
    next_added (and_added (switch s n) f) argument others ∙ ap (λ g. all_added g others) (one_exchanged f s n argument all_slots)
    ∙ moved others (and_added argument f) s n (still_all f argument all_slots) ∙ ap (and_added (switch s n)) (sym (next_added f argument others))

all_moved : (options others : List Argument) (f : Option FoundSoFar) → places_of options ≡ [] → HasAll f →
    all_added (all_added f options) others ≡ all_added (all_added f others) options
all_moved [] others f none all_slots = refl
all_moved (place word ∷ options) others f none all_slots = absurd (cc (none))
all_moved (switch s n ∷ options) others f none all_slots =
    ap (λ g. all_added g others) (next_added f (switch s n) options)
    ∙ all_moved options others (and_added (switch s n) f) none (still_all f (switch s n) all_slots)
    ∙ ap (λ g. all_added g options) (moved others f s n all_slots) ∙ sym (next_added (all_added f others) (switch s n) options)

all_added-append : (front back : List Argument) (f : Option FoundSoFar) → all_added f (front ++ back) ≡ all_added (all_added f front) back
all_added-append [] back f = refl
all_added-append (argument ∷ front) back f = all_added-append front back (option_and_then (λ g. added g argument) f)

any_place : (xs ys zs : List Argument) (f : Option FoundSoFar) → places_of xs ≡ [] → HasAll f → all_added f (xs ++ (ys ++ zs)) ≡ all_added f (ys ++ (xs ++ zs))
any_place xs ys zs f none all_slots =
    all_added-append xs (ys ++ zs) f ∙ all_added-append ys zs (all_added f xs) ∙ ap (λ g. all_added g zs) (all_moved xs ys f none all_slots)
    ∙ sym (all_added-append ys (xs ++ zs) f ∙ all_added-append xs zs (all_added f ys))

-- the arguments of words that could be read
read_of : (words : List (List ℕ)) (read : Option (List Argument)) → arguments words ≡ read → AreArguments words → (done : List Argument) × (arguments words ≡ Some done)
read_of words None e are = absurd (cc (e, are))
read_of words (Some done) e are = (done, e)

found_exchanged : (xs ys : List Argument) (others : Option (List Argument)) → places_of xs ≡ [] →
    option_and_then (all_added (Some nothing_filled)) (in_front_all xs (in_front_all ys others))
    ≡ option_and_then (all_added (Some nothing_filled)) (in_front_all ys (in_front_all xs others))
found_exchanged xs ys None none = refl
found_exchanged xs ys (Some zs) none = any_place xs ys zs (Some nothing_filled) none refl

pub any_order : (name : List ℕ) (options other back : List (List ℕ)) → AreOptions options → AreArguments other →
    form_of (name ∷ (options ++ (other ++ back))) ≡ form_of (name ∷ (other ++ (options ++ back)))
unfolding form_of
any_order name options other back xs o =
    let ys = read_of other (arguments other) refl o in
    let here : arguments (options ++ (other ++ back)) ≡ in_front_all xs.read (in_front_all ys.0 (arguments back)) =
    all_in_front options (other ++ back) xs.read xs.are ∙ ap (in_front_all xs.read) (all_in_front other back ys.0 ys.1) in
    let there : arguments (other ++ (options ++ back)) ≡ in_front_all ys.0 (in_front_all xs.read (arguments back)) =
    all_in_front other (options ++ back) ys.0 ys.1 ∙ ap (in_front_all ys.0) (all_in_front options back xs.read xs.are) in
    ap (λ read. option_and_then (first_fit forms name) (option_and_then (all_added (Some nothing_filled)) read)) here
    ∙ ap (option_and_then (first_fit forms name)) (found_exchanged xs.read ys.0 (arguments back) xs.no_place)
    ∙ ap (λ read. option_and_then (first_fit forms name) (option_and_then (all_added (Some nothing_filled)) read)) (sym there)
