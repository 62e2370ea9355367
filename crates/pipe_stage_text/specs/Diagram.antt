-- The diagram of cycles of a run: a line for each row, with a column for each cycle (CS:APP 3e, figures 4.43 and 4.54),
-- and with what the object text lists at each address.
use Rattle.std.specs.Prelude.{ℕ, ◌+◌, ◌/◌, ◌%◌, Bool, true, false, ◌&&◌, ◌==◌, List, [], ◌∷◌, ◌++◌, map, codes, Option, Some, None, is_some, if◌then◌else◌}
use Rattle.std.specs.List.{concat}
use Rattle.dp_signals.specs.declared.register_updates.RegisterUpdate.{RegisterUpdate}
use Rattle.dp_signals.specs.declared.register_updates.RegisterUpdate.TheVariants.{Stay, Bubble, Load}
use Rattle.dp_signals.specs.declared.register_updates.RegisterUpdates.{RegisterUpdates}
use Rattle.yis_run.specs.Report.{each_below}
use Rattle.pipe_stage_text.specs.Instruction.{instruction}
use Rattle.pipe_stage_text.specs.Numbers.{address}
use Rattle.pipe_stage_text.specs.declared.diagram.DiagramCycle.{DiagramCycle}
use Rattle.pipe_stage_text.specs.declared.stage_content.StageContent.{StageContent}
use Rattle.pipe_stage_text.specs.declared.stage_contents.StageContents.{StageContents}

-- what a stage holds is cancelled: the stage doesn't keep it, and the next one doesn't load it
abbrev pub lost : RegisterUpdate → RegisterUpdate → Bool
lost Stay next = false
lost Bubble Load = false
lost Bubble Stay = true
lost Bubble Bubble = true
lost Load Load = false
lost Load Stay = true
lost Load Bubble = true

-- what is fetched is cancelled: D takes a bubble instead, or stays while F goes on
abbrev pub fetch_lost : RegisterUpdate → RegisterUpdate → Bool
fetch_lost f Load = false
fetch_lost f Bubble = true
fetch_lost Stay Stay = false
fetch_lost Bubble Stay = true
fetch_lost Load Stay = true

-- a cycle as the diagram shows it; if the machine ends with it, nothing is cancelled
unfoldable pub shown_cycle : ℕ → StageContents → StageContent → RegisterUpdates → Bool → DiagramCycle
shown_cycle number watch fetch k going =
    record {
      number = number;
      f = fetch;
      d = watch.d;
      e = watch.e;
      m = watch.m;
      w = watch.w;
      f_lost = going && fetch_lost k.f k.d;
      d_lost = going && lost k.d k.e;
      e_lost = going && lost k.e k.m;
      m_lost = going && lost k.m k.w;
    }

-- the letter of a stage: small if what it holds is cancelled
abbrev pub letter : Bool → ℕ → ℕ → ℕ
letter lost small capital = if lost then small else capital

-- the letter of the last stage that holds a row, or a blank: `W`, `m` and `M`, `e` and `E`, `d` and `D`, `f` and `F`
abbrev pub letter_of : ℕ → DiagramCycle → ℕ
letter_of row s =
    if s.w.row == row then 87
    else (if s.m.row == row then letter s.m_lost 109 77
    else (if s.e.row == row then letter s.e_lost 101 69
    else (if s.d.row == row then letter s.d_lost 100 68
    else (if s.f.row == row then letter s.f_lost 102 70
    else 32))))

-- what a row is, if a stage holds it
abbrev pub held_in : ℕ → DiagramCycle → Option StageContent
held_in row s =
    if s.w.row == row then Some s.w
    else (if s.m.row == row then Some s.m
    else (if s.e.row == row then Some s.e
    else (if s.d.row == row then Some s.d
    else (if s.f.row == row then Some s.f
    else None))))

-- the same for any of several cycles
unfoldable pub held_of : ℕ → List DiagramCycle → Option StageContent
held_of row [] = None
held_of row (s ∷ rest) = if is_some (held_in row s) then held_in row s else held_of row rest

-- the last two digits of a cycle's number
unfoldable pub column : ℕ → List ℕ
column number = 32 ∷ (48 + number / 10 % 10) ∷ (48 + number % 10) ∷ []

abbrev pub columns : List DiagramCycle → List ℕ
columns cycles = concat (map (λ s. column s.number) cycles)

-- each letter is below the last digit of its cycle
abbrev pub letters : ℕ → List DiagramCycle → List ℕ
letters row cycles = concat (map (λ s. 32 ∷ 32 ∷ letter_of row s ∷ []) cycles)

-- what the row is
abbrev pub origin : StageContent → List ℕ
origin h = if h.live then address h.addr ++ codes " " else []

-- what the object text lists at the address of an instruction
abbrev pub behind_bar : Option (List ℕ) → List ℕ
behind_bar None = []
behind_bar (Some text) = codes " | " ++ text

abbrev pub row_note : (ℕ → Option (List ℕ)) → StageContent → List ℕ
row_note listing h = if h.live then behind_bar (listing h.addr) else []

unfoldable pub row_tail : (ℕ → Option (List ℕ)) → StageContent → List ℕ
row_tail listing h = codes " | " ++ (origin h ++ (instruction h ++ (row_note listing h ++ codes "\n")))

-- the line of a row; none if no stage holds it in these cycles
abbrev pub line_of : (ℕ → Option (List ℕ)) → ℕ → List DiagramCycle → Option StageContent → List ℕ
line_of listing row cycles None = []
line_of listing row cycles (Some h) = letters row cycles ++ row_tail listing h

unfoldable pub row_line : (ℕ → Option (List ℕ)) → ℕ → List DiagramCycle → List ℕ
row_line listing row cycles = line_of listing row cycles (held_of row cycles)

-- the rows are numbered from 1
abbrev pub nth_line : (ℕ → Option (List ℕ)) → List DiagramCycle → ℕ → List ℕ
nth_line listing cycles before = row_line listing (before + 1) cycles

unfoldable pub diagram : (ℕ → Option (List ℕ)) → ℕ → List DiagramCycle → List ℕ
diagram listing rows cycles = columns cycles ++ (codes "\n" ++ each_below rows (nth_line listing cycles))
