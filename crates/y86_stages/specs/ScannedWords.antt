-- The words of a call: those of `psim`, and among them the options that select what is shown.
use Rattle.std.specs.Prelude.{◌≡◌, ℕ, Bool, true, false, not, ◌&&◌, ◌||◌, if◌then◌else◌, List, [], ◌∷◌, ◌++◌, map, codes, string_bytes, Option, Some, None, is_none, is_some, unwrap_or, option_and_then}
use Rattle.std.specs.Option.{option_map}
use Rattle.std.specs.Str.{bytes_eq}
use Rattle.pipe_stage_text.specs.declared.observer.CycleRange.{CycleRange}
use Rattle.y86_words.specs.Numbers.{number_within}
use Rattle.y86_stages.specs.declared.reading.ShowOption.{ShowOption}
use Rattle.y86_stages.specs.declared.reading.ShowOption.TheVariants.{Diagram, From, OnSeq, OnSeqPlus, To}
use Rattle.hcl_types.specs.declared.table.Datapath.{Datapath}
use Rattle.hcl_types.specs.declared.table.Datapath.TheVariants.{Pipe, Seq, SeqPlus}
use Rattle.y86_stages.specs.declared.reading.ScannedArguments as code

-- what was read: the words of `psim`, beginning with its name, the options, and an option whose number is the next word
pub record Scanned : Type 0 where
  pub words : List (List ℕ)
  pub processor : Datapath
  pub diagram : Bool
  pub from : Option ℕ
  pub to : Option ℕ
  pub wants : Option ShowOption

abbrev pub read_in : code.ScannedArguments → Scanned
read_in r = record { words = map string_bytes r.words.items; processor = r.processor; diagram = r.diagram; from = r.from; to = r.to; wants = r.wants }

-- before the first word
abbrev pub first_read : Scanned
first_read = record { words = codes "psim" ∷ []; processor = Pipe; diagram = false; from = None; to = None; wants = None }

-- the option with this name
abbrev pub own_of : List ℕ → Option ShowOption
own_of word =
    if bytes_eq word (codes "--diagram") then Some Diagram
    else (if bytes_eq word (codes "--from") then Some From
    else (if bytes_eq word (codes "--to") then Some To
    else (if bytes_eq word (codes "--seq") then Some OnSeq
    else (if bytes_eq word (codes "--seqplus") then Some OnSeqPlus
    else None))))

-- the number of a cycle
abbrev pub most_cycle : ℕ
most_cycle = 18446744073709551615

abbrev pub cycle_number : List ℕ → Option ℕ
cycle_number word = number_within 1 most_cycle word

-- the number of an option
abbrev pub with_number : Scanned → ShowOption → ℕ → Scanned
with_number r Diagram n = record r { wants = None }
with_number r From n = record r { from = Some n; wants = None }
with_number r To n = record r { to = Some n; wants = None }
with_number r OnSeq n = record r { wants = None }
with_number r OnSeqPlus n = record r { wants = None }

abbrev pub is_pipe : Datapath → Bool
is_pipe Pipe = true
is_pipe Seq = false
is_pipe SeqPlus = false

-- an option is given at most once, and so is a processor
abbrev pub with_option : Scanned → ShowOption → Option Scanned
with_option r Diagram = if r.diagram then None else Some (record r { diagram = true })
with_option r From = if is_some r.from then None else Some (record r { wants = Some From })
with_option r To = if is_some r.to then None else Some (record r { wants = Some To })
with_option r OnSeq = if is_pipe r.processor then Some (record r { processor = Seq }) else None
with_option r OnSeqPlus = if is_pipe r.processor then Some (record r { processor = SeqPlus }) else None

abbrev pub with_kept : Scanned → List ℕ → Scanned
with_kept r word = record r { words = r.words ++ word ∷ [] }

abbrev pub with_word : Scanned → List ℕ → Option ShowOption → Option Scanned
with_word r word None = Some (with_kept r word)
with_word r word (Some own) = with_option r own

abbrev pub with_next : Scanned → List ℕ → Option ShowOption → Option Scanned
with_next r word None = with_word r word (own_of word)
with_next r word (Some own) = option_map (λ n. with_number r own n) (cycle_number word)

-- reads another word
unfoldable pub read_word : Scanned → List ℕ → Option Scanned
read_word r word = with_next r word r.wants

-- the next word was read as the option's number, or isn't a number
abbrev pub ScansNumber : Scanned → ShowOption → List ℕ → Bool → Scanned → Type 0
ScansNumber old own word true new = option_map (λ n. with_number old own n) (cycle_number word) ≡ Some new
ScansNumber old own word false new = cycle_number word ≡ None

abbrev pub ScansOption : Scanned → ShowOption → Bool → Scanned → Type 0
ScansOption old own true new = with_option old own ≡ Some new
ScansOption old own false new = with_option old own ≡ None

abbrev pub Scans : Scanned → List ℕ → Bool → Scanned → Type 0
Scans old word true new = read_word old word ≡ Some new
Scans old word false new = read_word old word ≡ None

-- no option waits for its number, and only PIPE has a diagram
abbrev pub whole : Scanned → Option Scanned
whole r = if is_none r.wants && (is_pipe r.processor || not r.diagram) then Some r else None

unfoldable pub all_read : Scanned → List (List ℕ) → Option Scanned
all_read r [] = whole r
all_read r (word ∷ rest) = option_and_then (λ q. all_read q rest) (read_word r word)

-- what words mean, if they are valid
abbrev pub read_of : List (List ℕ) → Option Scanned
read_of words = all_read first_read words

-- the cycles that are shown: all, unless the options limit them
abbrev pub window_of : Scanned → CycleRange
window_of r = record { from = unwrap_or r.from 1; to = unwrap_or r.to most_cycle; diagram = r.diagram }
