-- Which words form a command: the terms of the law of the words.
use Rattle.std.specs.Prelude.{◌≡◌, ◌<◌, ◌≤◌, ℕ, IsTrue, false, nat_eq, if◌then◌else◌, List, [], ◌∷◌, length, codes, get_or, None, Some, IsSome, Contains, Bool, true, ◌++◌}
use Rattle.std.specs.Fmt.{decimal}
use Rattle.std.specs.Option.{option_to_list}
use Rattle.y86_base.specs.Image.{IsSize}
use Rattle.y86_base.specs.declared.parts.Variant.{Variant}
use Rattle.y86_base.specs.declared.parts.Variant.TheVariants as variant
use Rattle.y86_words.specs.Arguments.{Argument, place, switch, FoundSoFar, arguments, index_of, is_option}
use Rattle.y86_words.specs.Forms.{Command, yas, yis, hcl, ssim, ssimp, psim, check_seq, check_plus, check_pipe, certify_pipe, recheck, Form, forms, fits, built_command, sample, most_drawn, most_seed, aig, aigrun, big, most_instructions}
use Rattle.y86_words.specs.declared.option.OptionName.{OptionName}

-- a possible name of a file: a word that isn't empty and is no option
abbrev pub IsFileName : List ℕ → Type 0
IsFileName word = (0 < length word) × (is_option word ≡ false)

-- a limit from 1 to 100,000,000
abbrev pub IsRunLimit : ℕ → Type 0
IsRunLimit n = (1 ≤ n) × (n ≤ 100000000)

-- the commands that words can form
abbrev pub IsInRange : Command → Type 0
IsInRange (yas source size v) = IsFileName source × IsSize size
IsInRange (yis object size limit v) = IsFileName object × IsSize size × IsRunLimit limit
IsInRange (hcl file) = IsFileName file
IsInRange (ssim file object size limit v) = IsFileName file × IsFileName object × IsSize size × IsRunLimit limit
IsInRange (ssimp file object size limit v) = IsFileName file × IsFileName object × IsSize size × IsRunLimit limit
IsInRange (psim file object size limit trace checked v) = IsFileName file × IsFileName object × IsSize size × IsRunLimit limit
IsInRange (check_seq file v) = IsFileName file
IsInRange (check_plus file v) = IsFileName file
IsInRange (check_pipe file v) = IsFileName file
IsInRange (certify_pipe file v) = IsFileName file
IsInRange (recheck file cert v) = IsFileName file × IsFileName cert
IsInRange (sample file seed count v) = IsFileName file × (seed ≤ most_seed) × (count ≤ most_drawn)
IsInRange (aig file v) = IsFileName file
IsInRange (aigrun file seed) = IsFileName file × (seed ≤ most_seed)
IsInRange (big n file v) = (1 ≤ n) × (n ≤ most_instructions) × IsFileName file

abbrev pub variant_words : Variant → List (List ℕ)
variant_words variant.Base = []
variant_words variant.Full = codes "--full" ∷ []

abbrev pub trace_words : Bool → List (List ℕ)
trace_words false = []
trace_words true = codes "--trace" ∷ []

abbrev pub checked_words : Bool → List (List ℕ)
checked_words false = []
checked_words true = codes "--checked" ∷ []

-- the words of a command with all of its options
abbrev pub words_of : Command → List (List ℕ)
words_of (yas source size v) = codes "yas" ∷ source ∷ codes "--mem" ∷ decimal size ∷ variant_words v
words_of (yis object size limit v) =
    codes "yis" ∷ object ∷ codes "--mem" ∷ decimal size ∷ codes "--limit" ∷ decimal limit ∷ variant_words v
words_of (hcl file) = codes "hcl" ∷ file ∷ []
words_of (ssim file object size limit v) =
    codes "ssim" ∷ file ∷ object ∷ codes "--mem" ∷ decimal size ∷ codes "--limit" ∷ decimal limit ∷ variant_words v
words_of (ssimp file object size limit v) =
    codes "ssimp" ∷ file ∷ object ∷ codes "--mem" ∷ decimal size ∷ codes "--limit" ∷ decimal limit ∷ variant_words v
words_of (psim file object size limit trace checked v) =
    codes "psim" ∷ file ∷ object ∷ codes "--mem" ∷ decimal size ∷ codes "--limit" ∷ decimal limit ∷ (trace_words trace ++ (checked_words checked ++ variant_words v))
words_of (check_seq file v) = codes "check" ∷ codes "seq" ∷ file ∷ variant_words v
words_of (check_plus file v) = codes "check" ∷ codes "seqplus" ∷ file ∷ variant_words v
words_of (check_pipe file v) = codes "check" ∷ codes "pipe" ∷ file ∷ variant_words v
words_of (certify_pipe file v) = codes "check" ∷ codes "pipe" ∷ file ∷ codes "--cert" ∷ variant_words v
words_of (recheck file cert v) = codes "recheck" ∷ file ∷ cert ∷ variant_words v
words_of (sample file seed count v) = codes "sample" ∷ file ∷ decimal seed ∷ decimal count ∷ variant_words v
words_of (aig file v) = codes "aig" ∷ file ∷ variant_words v
words_of (aigrun file seed) = codes "aigrun" ∷ file ∷ decimal seed ∷ []
words_of (big n file v) = codes "big" ∷ decimal n ∷ file ∷ variant_words v

-- words that can be read as arguments: file names and other words of places, and options each with its number
abbrev pub AreArguments : List (List ℕ) → Type 0
AreArguments words = IsSome (arguments words)

-- the words of the places, and the numbers of an option, each in order
abbrev pub places_of : List Argument → List (List ℕ)
places_of [] = []
places_of (place word ∷ rest) = word ∷ places_of rest
places_of (switch s n ∷ rest) = places_of rest

abbrev pub numbers_of : OptionName → List Argument → List ℕ
numbers_of s [] = []
numbers_of s (place word ∷ rest) = numbers_of s rest
numbers_of s (switch t n ∷ rest) = if nat_eq (index_of s) (index_of t) then n ∷ numbers_of s rest else numbers_of s rest

-- words that are only options
pub record AreOptions (words : List (List ℕ)) : Type 0 where
  pub read : List Argument
  pub are : arguments words ≡ Some read
  pub no_place : places_of read ≡ []

-- what is collected from arguments: the words of the places in order, and for each option its one number, or none
pub record IsFound (read : List Argument) (found : FoundSoFar) : Type 0 where
  pub words : places_of read ≡ found.words
  pub numbers : (s : OptionName) → numbers_of s read ≡ option_to_list (get_or found.values (index_of s) None)

-- a name and arguments that fit a row, with each option at most once, and form its command
pub record HasForm (name : List ℕ) (rest : List (List ℕ)) (command : Command) : Type 0 where
  pub read : List Argument
  pub are : arguments rest ≡ Some read
  pub found : FoundSoFar
  pub is_found : IsFound read found
  pub form : Form
  pub is_row : Contains forms form
  pub fits : IsTrue (fits form name found)
  pub is_command : built_command form.kind found ≡ Some command
