-- The arguments in the words after the name of a command: the words that fill places, and the options.
use Rattle.std.specs.Prelude.{ℕ, Bool, nat_lt, nat_eq, if◌then◌else◌, List, [], ◌∷◌, ◌++◌, length, codes, get_or, set, Option, Some, None, is_none, option_and_then}
use Rattle.std.specs.List.{starts_with}
use Rattle.std.specs.Option.{option_map}
use Rattle.std.specs.Str.{bytes_eq}
use Rattle.y86_base.specs.Image.{is_image_size}
use Rattle.y86_words.specs.Numbers.{number_that, is_run_limit}
use Rattle.y86_words.specs.declared.option.OptionName.{OptionName}
use Rattle.y86_words.specs.declared.option.OptionName.TheVariants.{Full, Mem, Limit, Trace, Checked, Cert}

-- ---- the options

abbrev pub index_of : OptionName → ℕ
index_of Full = 0
index_of Mem = 1
index_of Limit = 2
index_of Trace = 3
index_of Checked = 4
index_of Cert = 5

-- the test for the number of an option, or none if the option takes no number
abbrev pub takes : OptionName → Option (ℕ → Bool)
takes Full = None
takes Mem = Some is_image_size
takes Limit = Some is_run_limit
takes Trace = None
takes Checked = None
takes Cert = None

-- the option with this name
abbrev pub switch_of : List ℕ → Option OptionName
switch_of word =
    if bytes_eq word (codes "--full") then Some Full
    else (if bytes_eq word (codes "--mem") then Some Mem
    else (if bytes_eq word (codes "--limit") then Some Limit
    else (if bytes_eq word (codes "--trace") then Some Trace
    else (if bytes_eq word (codes "--checked") then Some Checked
    else (if bytes_eq word (codes "--cert") then Some Cert
    else None)))))

-- ---- the arguments

-- a word that fills a place, or an option with its number, which is 0 if the option takes none
pub data Argument : Type 0 where
  place : List ℕ → Argument
  switch : OptionName → ℕ → Argument

-- how a word is read: as an argument, as an option whose number is the next word, or not at all
pub data WordReading : Type 0 where
  whole : Argument → WordReading
  needs : OptionName → (ℕ → Bool) → WordReading
  neither : WordReading

-- a word that begins with `--` is an option
abbrev pub is_option : List ℕ → Bool
is_option word = starts_with nat_eq word (codes "--")

abbrev pub switch_reading : OptionName → Option (ℕ → Bool) → WordReading
switch_reading s None = whole (switch s 0)
switch_reading s (Some passes) = needs s passes

abbrev pub option_reading : Option OptionName → WordReading
option_reading None = neither
option_reading (Some s) = switch_reading s (takes s)

-- any other word that isn't empty fills a place
abbrev pub place_reading : List ℕ → WordReading
place_reading [] = neither
place_reading (first ∷ rest) = whole (place (first ∷ rest))

abbrev pub reading_of : List ℕ → WordReading
reading_of word = if is_option word then option_reading (switch_of word) else place_reading word

-- an argument in front of others, if it and the others could be read
abbrev pub in_front : Option Argument → Option (List Argument) → Option (List Argument)
in_front None others = None
in_front (Some argument) None = None
in_front (Some argument) (Some others) = Some (argument ∷ others)

-- the arguments of a last word
abbrev pub last : WordReading → Option (List Argument)
last (whole argument) = Some (argument ∷ [])
last (needs s passes) = None
last neither = None

-- the arguments of a word and of those after it: `next` is the next word, `from` the arguments from it on, and `behind`
-- those after it
abbrev pub before : WordReading → List ℕ → Option (List Argument) → Option (List Argument) → Option (List Argument)
before (whole argument) next behind from = in_front (Some argument) from
before (needs s passes) next behind from = in_front (option_map (switch s) (number_that passes next)) behind
before neither next behind from = None

-- the arguments of a list of words, read from the left
unfoldable pub arguments : List (List ℕ) → Option (List Argument)
arguments [] = Some []
arguments (word ∷ []) = last (reading_of word)
arguments (word ∷ next ∷ rest) = before (reading_of word) next (arguments rest) (arguments (next ∷ rest))

-- ---- collecting arguments

-- the words of the places, in order, and the number of each option that was given, by its index
pub record FoundSoFar : Type 0 where
  pub words : List (List ℕ)
  pub values : List (Option ℕ)

abbrev pub nothing_filled : FoundSoFar
nothing_filled = record { words = []; values = None ∷ None ∷ None ∷ None ∷ None ∷ None ∷ [] }

-- what is collected with another argument: nothing if it is a fourth one without an option, or an option given twice
abbrev pub added : FoundSoFar → Argument → Option FoundSoFar
added f (place word) = if nat_lt (length f.words) 3 then Some (record f { words = f.words ++ word ∷ [] }) else None
added f (switch s n) =
    if is_none (get_or f.values (index_of s) None) then Some (record f { values = set f.values (index_of s) (Some n) }) else None

abbrev pub all_added : Option FoundSoFar → List Argument → Option FoundSoFar
all_added f [] = f
all_added f (argument ∷ rest) = all_added (option_and_then (λ g. added g argument) f) rest
