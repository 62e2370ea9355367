-- What a user may conclude from the definition of an assembled source.
use Rattle.std.specs.Prelude.{◌≡◌, ℕ, ◌+◌, ◌-◌, ◌<◌, Bool, true, false, ◌&&◌, ◌||◌, ◌==◌, not, nat_le, nat_lt, List, ◌∷◌, ◌++◌, length, drop, fold, replicate, slice_index, Option, Some, None, is_none, unwrap_or, Ok, Err, is_ok, ◌%◌, ◌≤◌, map, slice_range}
use Rattle.std.specs.List.{list_all, list_any}
use Rattle.y86_base.specs.declared.parts.Variant.{Variant}
use Rattle.yas_asm.specs.declared.fault.AsmWhy.{AsmWhy}
use Rattle.yas_asm.specs.declared.fault.AsmWhy.TheVariants.{Syntax, BadByte, NumberTooWide, LabelTwice, LabelUnknown, OutsideMemory, Overlap, LabelLimit, Memory}
use Rattle.yas_asm.specs.declared.fault.AsmFault.{AsmFault}
use Rattle.yas_asm.specs.declared.statement.Parsed.{Parsed}
use Rattle.yas_asm.specs.declared.statement.Statement.{Statement}
use Rattle.yas_asm.specs.declared.statement.Statement.TheVariants as statements
use Rattle.yas_asm.specs.declared.listing.Line.{Line}
use Rattle.y86_base.specs.Image.{with_bytes}
use Rattle.y86_base.specs.Text.{lines}
use Rattle.y86_base.specs.Keyword.{meaning_of}
use Rattle.yas_asm.specs.Comments.{close_length, comment_length, is_good, bad_outside}
use Rattle.yas_asm.specs.Grammar.{is_wide, line, read_line}
use Rattle.yas_asm.specs.Assembly.{Placed, source_lines, width_of, place, address_after, labels, label_of, filled, names_wide, names_unknown, is_defined, is_past_limit, overlaps, fault_behind, assembled, next_multiple, bytes_at}

-- `close_length` finds the first `*/`: there is one at the place it gives, and that place is no later than any other
-- `*/`
pub record CloseIsFirst : Type 0 where
  pub there :
      (text : List ℕ) → 0 < close_length text → (2 ≤ close_length text) × (drop (close_length text - 2) text ≡ 42 ∷ 47 ∷ drop (close_length text) text)
  pub first :
      (before after : List ℕ) → (0 < close_length (before ++ 42 ∷ 47 ∷ after)) × (close_length (before ++ 42 ∷ 47 ∷ after) ≤ length before + 2)

-- neither `#` nor `/`, with which comments begin
abbrev pub begins_no_comment : ℕ → Bool
begins_no_comment byte = not (byte == 35) && not (byte == 47)

-- what the sweep for bad bytes amounts to: it passes a comment as a whole, and any other byte by itself. So a line of
-- good bytes has no bad byte outside its comments, and a bad byte is found if neither `#` nor `/` precedes it
pub record SweepPassesComments : Type 0 where
  pub comment : (text : List ℕ) → 0 < comment_length text → bad_outside 0 text ≡ bad_outside 0 (drop (comment_length text) text)
  pub plain : (byte : ℕ) (bytes : List ℕ) → comment_length (byte ∷ bytes) ≡ 0 → bad_outside 0 (byte ∷ bytes) ≡ (not (is_good byte) || bad_outside 0 bytes)
  pub good : (text : List ℕ) → list_all is_good text ≡ true → bad_outside 0 text ≡ false
  pub bad :
      (before after : List ℕ) (byte : ℕ) → list_all begins_no_comment before ≡ true → is_good byte ≡ false
      → bad_outside 0 (before ++ byte ∷ after) ≡ true

-- the lines of a source have its texts; each is read by itself; the first is at address 0, and each other where the
-- line before it leads
pub record LinesFollow : Type 0 where
  pub texts : (variant : Variant) (source : List ℕ) (size : ℕ) → map (λ line. line.text) (source_lines variant size source) ≡ lines source
  pub reads :
      (variant : Variant) (source : List ℕ) (size : ℕ) (before after : List Placed) (line : Placed) → source_lines variant size source ≡ before ++ line ∷ after
      → line.read ≡ read_line variant line.text
  pub first : (variant : Variant) (source : List ℕ) (size : ℕ) (after : List Placed) (line : Placed) → source_lines variant size source ≡ line ∷ after → line.address ≡ 0
  pub next :
      (variant : Variant) (source : List ℕ) (size : ℕ) (before after : List Placed) (line other : Placed) → source_lines variant size source ≡ before ++ line ∷ other ∷ after
      → other.address ≡ address_after variant size line.address line.read

-- the fault of a source's line, given the labels of the whole source and the lines before it
abbrev pub fault_of : Variant → ℕ → List ℕ → List Placed → Placed → Option AsmWhy
fault_of variant size source before line = fault_behind variant size (labels (source_lines variant size source)) before line

-- no line of a source has a fault
abbrev pub IsFaultless : Variant → ℕ → List ℕ → Type 0
IsFaultless variant size source =
    (before after : List Placed) (line : Placed) → source_lines variant size source ≡ before ++ line ∷ after → fault_of variant size source before line ≡ None

-- a source is accepted exactly if no line has a fault
pub record AcceptedWithoutFault : Type 0 where
  pub none : (variant : Variant) (source : List ℕ) (size : ℕ) (listing : List Line) → assembled variant source size ≡ Ok listing → IsFaultless variant size source
  pub accepted : (variant : Variant) (source : List ℕ) (size : ℕ) → IsFaultless variant size source → is_ok (assembled variant source size) ≡ true

-- the reported fault belongs to the first line with a fault, and gives this line's number and reason
pub record IsFirstFault (variant : Variant) (size : ℕ) (source : List ℕ) (fault : AsmFault) : Type 0 where
  pub before : List Placed
  pub line : Placed
  pub after : List Placed
  pub parts : source_lines variant size source ≡ before ++ line ∷ after
  pub number : fault.line ≡ length before + 1
  pub reason : fault_of variant size source before line ≡ Some fault.why
  pub none_before : (first rest : List Placed) (other : Placed) → before ≡ first ++ other ∷ rest → fault_of variant size source first other ≡ None

abbrev pub FirstFaultIsReported : Type 0
FirstFaultIsReported =
    (variant : Variant) (source : List ℕ) (size : ℕ) (fault : AsmFault) → assembled variant source size ≡ Err fault → IsFirstFault variant size source fault

-- the reasons in the order in which they are reported
abbrev pub rank : AsmWhy → ℕ
rank Syntax = 1
rank BadByte = 2
rank NumberTooWide = 3
rank LabelTwice = 4
rank LabelUnknown = 5
rank OutsideMemory = 6
rank Overlap = 7
rank LabelLimit = 8
rank Memory = 9

-- a reason applies to a well-formed line, given the labels of the source and the lines before it
abbrev pub holds_of : Variant → ℕ → List (List ℕ × ℕ) → List Placed → ℕ → Parsed → AsmWhy → Bool
holds_of variant size table before address parsed NumberTooWide = is_wide parsed.statement || names_wide table parsed.statement
holds_of variant size table before address parsed LabelTwice = is_defined (labels before) parsed.label
holds_of variant size table before address parsed LabelUnknown = names_unknown table parsed.statement
holds_of variant size table before address parsed OutsideMemory = is_none (place variant size address parsed.statement)
holds_of variant size table before address parsed Overlap = overlaps (filled variant size before) address (width_of variant parsed.statement)
holds_of variant size table before address parsed LabelLimit = is_past_limit (labels before) parsed.label
holds_of variant size table before address parsed _ = false

-- and to any line: `bad` says that it has a byte that is not allowed, and `form` is its content if it is well-formed
abbrev pub holds : Variant → ℕ → List (List ℕ × ℕ) → List Placed → ℕ → Bool → Option Parsed → AsmWhy → Bool
holds variant size table before address true form BadByte = true
holds variant size table before address true form _ = false
holds variant size table before address false None Syntax = true
holds variant size table before address false None _ = false
holds variant size table before address false (Some parsed) why = holds_of variant size table before address parsed why

-- the first of the reasons that apply
abbrev pub IsLeast : (AsmWhy → Bool) → Option AsmWhy → Type 0
IsLeast test None = (why : AsmWhy) → test why ≡ false
IsLeast test (Some why) = (test why ≡ true) × ((other : AsmWhy) → test other ≡ true → rank why ≤ rank other)

-- the fault of a line is the first of the reasons that apply to it
abbrev pub LeastReasonIsReported : Type 0
LeastReasonIsReported =
    (variant : Variant) (source : List ℕ) (size : ℕ) (before after : List Placed) (here : Placed) → source_lines variant size source ≡ before ++ here ∷ after
    → IsLeast (holds variant size (labels (source_lines variant size source)) before here.address (bad_outside 0 here.text) (line variant here.text))
    (fault_of variant size source before here)

-- in an accepted source the value of a label is the address before its line's statement
abbrev pub LabelsAreAddresses : Type 0
LabelsAreAddresses =
    (variant : Variant) (source : List ℕ) (size : ℕ) (listing : List Line) → assembled variant source size ≡ Ok listing
    → (before after : List Placed) (line : Placed) (name : List ℕ)
    → source_lines variant size source ≡ before ++ line ∷ after → label_of line.read ≡ Some name
    → meaning_of (labels (source_lines variant size source)) name ≡ Some line.address

-- the first line of a source with a label is at an address
pub record IsLabelled (all : List Placed) (name : List ℕ) (address : ℕ) : Type 0 where
  pub before : List Placed
  pub line : Placed
  pub after : List Placed
  pub parts : all ≡ before ++ line ∷ after
  pub label : label_of line.read ≡ Some name
  pub at : line.address ≡ address
  pub first : (front rest : List Placed) (other : Placed) → before ≡ front ++ other ∷ rest → label_of other.read ≡ Some name → ⊥

-- and in every source each label with a value belongs to its first line, and is this line's address
abbrev pub LabelsAreOfLines : Type 0
LabelsAreOfLines =
    (variant : Variant) (source : List ℕ) (size : ℕ) (name : List ℕ) (address : ℕ)
    → meaning_of (labels (source_lines variant size source)) name ≡ Some address → IsLabelled (source_lines variant size source) name address

-- the address that a line with this content shows: where `.pos` and `.align` lead, and else its address, if it has a
-- label or a statement; no listing has a number outside its bounds
abbrev pub ShowsAddress : Option (List ℕ) → ℕ → Statement → Option ℕ → Type 0
ShowsAddress label address (statements.Position n) shown = shown ≡ Some n
ShowsAddress label address (statements.Align n) shown = shown ≡ Some (next_multiple n address)
ShowsAddress label address (statements.Instruction icode ifun a b constant) shown = shown ≡ Some address
ShowsAddress label address (statements.Data width value) shown = shown ≡ Some address
ShowsAddress None address statements.Nothing shown = shown ≡ None
ShowsAddress (Some name) address statements.Nothing shown = shown ≡ Some address
ShowsAddress label address statements.Wide shown = ⊥

-- a line of a listing belongs to the source line with this number: it shows what that line says, and has its bytes
pub record IsShown (variant : Variant) (size : ℕ) (source : List ℕ) (number : ℕ) (line : Line) : Type 0 where
  pub before : List Placed
  pub placed : Placed
  pub after : List Placed
  pub parsed : Parsed
  pub parts : source_lines variant size source ≡ before ++ placed ∷ after
  pub number_is : length before ≡ number
  pub read : placed.read ≡ Ok parsed
  pub shows : ShowsAddress parsed.label placed.address parsed.statement line.addr
  pub bytes : line.bytes.items ≡ bytes_at (labels (source_lines variant size source)) parsed.statement

-- each line of an accepted source's listing belongs to the source line in the same place
abbrev pub LinesShow : Type 0
LinesShow =
    (variant : Variant) (source : List ℕ) (size : ℕ) (listing : List Line) → assembled variant source size ≡ Ok listing
    → (before after : List Line) (line : Line) → listing ≡ before ++ line ∷ after → IsShown variant size source (length before) line

-- a line of a listing emits a byte at an address
abbrev pub emits_at : Option ℕ → ℕ → ℕ → Bool
emits_at None count address = false
emits_at (Some first) count address = nat_le first address && nat_lt address (first + count)

abbrev pub emits : Line → ℕ → Bool
emits line address = emits_at line.addr (length line.bytes.items) address

-- in the listing of an accepted source no two lines emit a byte at one address: each emitted byte belongs to one line
abbrev pub BytesHaveOneLine : Type 0
BytesHaveOneLine =
    (variant : Variant) (source : List ℕ) (size : ℕ) (listing : List Line) → assembled variant source size ≡ Ok listing
    → (before between after : List Line) (one other : Line) (address : ℕ) → listing ≡ before ++ one ∷ (between ++ other ∷ after)
    → emits one address ≡ true → emits other address ≡ true → ⊥

-- memory with the bytes of a line stored at its address
abbrev pub put_at : Option ℕ → List ℕ → List ℕ → List ℕ
put_at None bytes memory = memory
put_at (Some first) bytes memory = with_bytes memory first bytes

-- the memory image of a listing: zeros, over which the bytes are stored line after line
unfoldable pub image : ℕ → List Line → List ℕ
image size listing = fold (λ memory line. put_at line.addr line.bytes.items memory) (replicate size 0) listing

-- the image of an accepted source has the bytes of each line at its address
abbrev pub ImageHasLines : Type 0
ImageHasLines =
    (variant : Variant) (source : List ℕ) (size : ℕ) (listing : List Line) → assembled variant source size ≡ Ok listing
    → (before after : List Line) (line : Line) (address : ℕ) → listing ≡ before ++ line ∷ after → emits line address ≡ true
    → slice_index (image size listing) address ≡ slice_index line.bytes.items (address - unwrap_or line.addr 0)

-- and zeros elsewhere
abbrev pub ImageIsZeroElsewhere : Type 0
ImageIsZeroElsewhere =
    (variant : Variant) (source : List ℕ) (size : ℕ) (listing : List Line) → assembled variant source size ≡ Ok listing
    → (address : ℕ) → address < size → list_any (λ line. emits line address) listing ≡ false
    → slice_index (image size listing) address ≡ 0

-- `.align` goes to the least multiple of its number that is not below the address
abbrev pub AlignIsLeast : Type 0
AlignIsLeast =
    (n address : ℕ) → 0 < n
    → (next_multiple n address % n ≡ 0) × (address ≤ next_multiple n address) × ((m : ℕ) → m % n ≡ 0 → address ≤ m → next_multiple n address ≤ m)

-- the listing of an accepted source says where in the source the text of each of its lines is
abbrev pub TextsStandThere : Type 0
TextsStandThere =
    (variant : Variant) (source : List ℕ) (size : ℕ) (listing : List Line) → assembled variant source size ≡ Ok listing
    → map (λ line. slice_range source line.from line.to) listing ≡ lines source
