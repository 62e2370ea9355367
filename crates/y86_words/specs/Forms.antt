-- The forms of the commands, as rows: a name, the places after it in order, and the options, which may occur anywhere
-- after the name.
use Rattle.std.specs.Prelude.{ℕ, Bool, true, false, ◌&&◌, ◌||◌, ◌==◌, if◌then◌else◌, List, [], ◌∷◌, codes, get_or, slice_get, Option, Some, None, is_none, is_some, unwrap_or, option_and_then}
use Rattle.std.specs.List.{list_any}
use Rattle.std.specs.Option.{option_map}
use Rattle.std.specs.Str.{bytes_eq}
use Rattle.y86_base.specs.declared.parts.Variant.{Variant}
use Rattle.y86_base.specs.declared.parts.Variant.TheVariants as variant
use Rattle.y86_words.specs.Arguments.{FoundSoFar, nothing_filled, index_of, all_added, arguments}
use Rattle.y86_words.specs.Numbers.{number_within}
use Rattle.y86_words.specs.declared.option.OptionName.{OptionName}
use Rattle.y86_words.specs.declared.option.OptionName.TheVariants.{Full, Mem, Limit, Trace, Checked, Cert}
use Rattle.y86_words.specs.declared.form.CommandKind.{CommandKind}
use Rattle.y86_words.specs.declared.form.CommandKind.TheVariants.{Yas, Yis, Hcl, Ssim, Ssimp, Psim, CheckSeq, CheckPlus, CheckPipe, CertifyPipe, Recheck, Sample, Aig, Aigrun, Big}

-- what a place takes: this word, the name of a file, or a number from the first bound to the second
pub data PlaceForm : Type 0 where
  keyword : List ℕ → PlaceForm
  file : PlaceForm
  number : ℕ → ℕ → PlaceForm

pub record Form : Type 0 where
  pub kind : CommandKind
  pub name : List ℕ
  pub places : List PlaceForm
  pub options : List OptionName

abbrev pub row : CommandKind → List ℕ → List PlaceForm → List OptionName → Form
row kind name places options = record { kind = kind; name = name; places = places; options = options }

-- the most valuations that `sample` draws
abbrev pub most_drawn : ℕ
most_drawn = 1000000

-- the largest seed of a draw
abbrev pub most_seed : ℕ
most_seed = 18446744073709551615

-- the most instructions of a generated program, apart from the last, which halts
abbrev pub most_instructions : ℕ
most_instructions = 100000

-- the table of the commands
abbrev pub forms : List Form
forms =
    row Yas (codes "yas") (file ∷ []) (Full ∷ Mem ∷ [])
    ∷ row Yis (codes "yis") (file ∷ []) (Full ∷ Mem ∷ Limit ∷ [])
    ∷ row Hcl (codes "hcl") (file ∷ []) []
    ∷ row Ssim (codes "ssim") (file ∷ file ∷ []) (Full ∷ Mem ∷ Limit ∷ [])
    ∷ row Ssimp (codes "ssimp") (file ∷ file ∷ []) (Full ∷ Mem ∷ Limit ∷ [])
    ∷ row Psim (codes "psim") (file ∷ file ∷ []) (Full ∷ Mem ∷ Limit ∷ Trace ∷ Checked ∷ [])
    ∷ row CheckSeq (codes "check") (keyword (codes "seq") ∷ file ∷ []) (Full ∷ [])
    ∷ row CheckPlus (codes "check") (keyword (codes "seqplus") ∷ file ∷ []) (Full ∷ [])
    ∷ row CheckPipe (codes "check") (keyword (codes "pipe") ∷ file ∷ []) (Full ∷ [])
    -- only with `--cert`: without it the row above fits
    ∷ row CertifyPipe (codes "check") (keyword (codes "pipe") ∷ file ∷ []) (Full ∷ Cert ∷ [])
    ∷ row Recheck (codes "recheck") (file ∷ file ∷ []) (Full ∷ [])
    ∷ row Sample (codes "sample") (file ∷ number 0 most_seed ∷ number 0 most_drawn ∷ []) (Full ∷ [])
    ∷ row Aig (codes "aig") (file ∷ []) (Full ∷ [])
    ∷ row Aigrun (codes "aigrun") (file ∷ number 0 most_seed ∷ []) []
    ∷ row Big (codes "big") (number 1 most_instructions ∷ file ∷ []) (Full ∷ [])
    ∷ []

-- ---- whether words fit a form

abbrev pub fits_place : PlaceForm → List ℕ → Bool
fits_place (keyword text) given = bytes_eq given text
fits_place file given = true
fits_place (number least most) given = is_some (number_within least most given)

abbrev pub fits_places : List PlaceForm → List (List ℕ) → Bool
fits_places [] [] = true
fits_places [] (word ∷ words) = false
fits_places (place ∷ places) [] = false
fits_places (place ∷ places) (word ∷ words) = fits_place place word && fits_places places words

-- an option that was given is one of the form's
abbrev pub fits_switch : List OptionName → List (Option ℕ) → OptionName → Bool
fits_switch options values s = is_none (get_or values (index_of s) None) || list_any (λ o. index_of o == index_of s) options

abbrev pub fits : Form → List ℕ → FoundSoFar → Bool
fits form name f =
    bytes_eq name form.name && fits_places form.places f.words
    && (fits_switch form.options f.values Full && fits_switch form.options f.values Mem && fits_switch form.options f.values Limit && fits_switch form.options f.values Trace
    && fits_switch form.options f.values Checked && fits_switch form.options f.values Cert)

-- ---- the commands

pub data Command : Type 0 where
  -- print the object text of an assembly file: its name, the size of the memory in bytes, the instruction set
  yas : List ℕ → ℕ → Variant → Command
  -- run an object file at the level of instructions: its name, the size of the memory in bytes, the limit of steps, the
  -- instruction set
  yis : List ℕ → ℕ → ℕ → Variant → Command
  -- read and print an HCL file: its name
  hcl : List ℕ → Command
  -- run an object file on SEQ under an HCL file: the names of both, the size of the memory in bytes, the limit of cycles, the
  -- instruction set
  ssim : List ℕ → List ℕ → ℕ → ℕ → Variant → Command
  -- the same on SEQ+, which computes the PC as a cycle begins
  ssimp : List ℕ → List ℕ → ℕ → ℕ → Variant → Command
  -- run an object file on PIPE under an HCL file: as for ssim, whether a trace is asked for, and whether the HCL file
  -- is checked first
  psim : List ℕ → List ℕ → ℕ → ℕ → Bool → Bool → Variant → Command
  -- decide whether an HCL file meets the 16 obligations of SEQ; if it does, SEQ under it does what the instructions
  -- mean, for every program: the name of the file, the instruction set
  check_seq : List ℕ → Variant → Command
  -- the same for SEQ+
  check_plus : List ℕ → Variant → Command
  -- the same for the 27 obligations of PIPE, and for every program that doesn't store over one of the next three
  -- instructions
  check_pipe : List ℕ → Variant → Command
  -- the same, with a certificate instead of the line of a `yes`
  certify_pipe : List ℕ → Variant → Command
  -- check a certificate that a file is accepted: the names of the HCL file and of the certificate, the instruction set
  recheck : List ℕ → List ℕ → Variant → Command
  -- try drawn valuations against the obligations of PIPE: the name of the HCL file, the seed, the number of valuations,
  -- the instruction set
  sample : List ℕ → ℕ → ℕ → Variant → Command
  -- write the obligations of PIPE under an HCL file as AIGER text
  aig : List ℕ → Variant → Command
  -- count, for each output of an AIGER file, the drawn inputs at which it is 1: the name of the file, the seed
  aigrun : List ℕ → ℕ → Command
  -- run a generated program at the level of instructions and on PIPE: the number of instructions, the name of the HCL
  -- file, the instruction set
  big : ℕ → List ℕ → Variant → Command

-- `--full` selects the instruction set with `iaddq`
abbrev pub variant_with : Option ℕ → Variant
variant_with None = variant.Base
variant_with (Some n) = variant.Full

abbrev pub variant_of : FoundSoFar → Variant
variant_of f = variant_with (get_or f.values (index_of Full) None)

-- the size of the memory without `--mem`, and the most steps or cycles without `--limit`
abbrev pub default_size : ℕ
default_size = 8192

abbrev pub default_limit : ℕ
default_limit = 10000

-- the size of the memory, and the most steps or cycles
abbrev pub size_of : FoundSoFar → ℕ
size_of f = unwrap_or (get_or f.values (index_of Mem) None) default_size

abbrev pub limit_of : FoundSoFar → ℕ
limit_of f = unwrap_or (get_or f.values (index_of Limit) None) default_limit

-- whether a trace is asked for
abbrev pub trace_of : FoundSoFar → Bool
trace_of f = is_some (get_or f.values (index_of Trace) None)

-- whether a check is asked for
abbrev pub checked_of : FoundSoFar → Bool
checked_of f = is_some (get_or f.values (index_of Checked) None)

-- the number in a place
abbrev pub number_at : ℕ → ℕ → ℕ → FoundSoFar → Option ℕ
number_at least most at f = option_and_then (number_within least most) (slice_get f.words at)

-- the command of a row with the collected arguments
abbrev pub built_command : CommandKind → FoundSoFar → Option Command
built_command Yas f = option_map (λ source. yas source (size_of f) (variant_of f)) (slice_get f.words 0)
built_command Yis f = option_map (λ object. yis object (size_of f) (limit_of f) (variant_of f)) (slice_get f.words 0)
built_command Hcl f = option_map hcl (slice_get f.words 0)
built_command Ssim f =
    option_and_then (λ file. option_map (λ object. ssim file object (size_of f) (limit_of f) (variant_of f)) (slice_get f.words 1)) (slice_get f.words 0)
built_command Ssimp f =
    option_and_then (λ file. option_map (λ object. ssimp file object (size_of f) (limit_of f) (variant_of f)) (slice_get f.words 1)) (slice_get f.words 0)
built_command Psim f =
    option_and_then (λ file. option_map (λ object. psim file object (size_of f) (limit_of f) (trace_of f) (checked_of f) (variant_of f)) (slice_get f.words 1)) (slice_get f.words 0)
built_command CheckSeq f = option_map (λ file. check_seq file (variant_of f)) (slice_get f.words 1)
built_command CheckPlus f = option_map (λ file. check_plus file (variant_of f)) (slice_get f.words 1)
built_command CheckPipe f = option_map (λ file. check_pipe file (variant_of f)) (slice_get f.words 1)
built_command CertifyPipe f = option_map (λ file. certify_pipe file (variant_of f)) (slice_get f.words 1)
built_command Recheck f = option_and_then (λ file. option_map (λ cert. recheck file cert (variant_of f)) (slice_get f.words 1)) (slice_get f.words 0)
built_command Sample f =
    option_and_then (λ file. option_and_then (λ seed. option_map (λ count. sample file seed count (variant_of f)) (number_at 0 most_drawn 2 f)) (number_at 0 most_seed 1 f))
    (slice_get f.words 0)
built_command Aig f = option_map (λ file. aig file (variant_of f)) (slice_get f.words 0)
built_command Aigrun f = option_and_then (λ file. option_map (aigrun file) (number_at 0 most_seed 1 f)) (slice_get f.words 0)
built_command Big f = option_and_then (λ n. option_map (λ file. big n file (variant_of f)) (slice_get f.words 1)) (number_at 1 most_instructions 0 f)

-- the command of the first row that fits
unfoldable pub first_fit : List Form → List ℕ → FoundSoFar → Option Command
first_fit [] name f = None
first_fit (form ∷ rest) name f = if fits form name f then built_command form.kind f else first_fit rest name f

-- the command that words form, if any
unfoldable pub form_of : List (List ℕ) → Option Command
form_of [] = None
form_of (name ∷ rest) =
    option_and_then (first_fit forms name) (option_and_then (all_added (Some nothing_filled)) (arguments rest))
