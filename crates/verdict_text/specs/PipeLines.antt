-- The output of the verdicts on PIPE: for a `yes` the settings; for a `no` the obligation, the lines of the
-- valuation, and its atoms.
use Rattle.std.specs.Prelude.{ℕ, Bool, true, false, ◌==◌, codes, List, [], ◌∷◌, ◌++◌, map, if◌then◌else◌}
use Rattle.y86_base.specs.Numeral.{numeral}
use Rattle.ctl_atoms.specs.declared.leaf.Atom.{Atom}
use Rattle.pipe_fields.specs.declared.lines.StageLine.{StageLine}
use Rattle.pipe_fields.specs.declared.lines.StageLine.TheVariants.{F, D, E, M, W}
use Rattle.pipe_fields.specs.Layout.{Field, Fields, bit_count, fields_of, good, wrong}
use Rattle.pipe_fields.specs.Lines.{line_fields}
use Rattle.pipe_motion.specs.declared.settings.Settings.{Settings}
use Rattle.verdict_text.specs.Atoms.{atoms_line}
use Rattle.verdict_text.specs.Fields.{Labelled, field, labelled_line}

-- ---- the lines

-- the numbers of a line
unfoldable pub line_numbers : StageLine → Fields → List Labelled
line_numbers line c = map (λ (x : Field). field x.label (x.number c)) (line_fields line)

-- what a stage holds
abbrev pub kind_word : ℕ → List ℕ
kind_word kind = if kind == good then codes " good" else (if kind == wrong then codes " wrong" else codes " bubble")

unfoldable pub pipe_lines : Fields → List ℕ
pipe_lines c =
    labelled_line (codes "F") (line_numbers F c)
    ++ labelled_line (codes "D" ++ kind_word c.d.kind) (line_numbers D c)
    ++ labelled_line (codes "E" ++ kind_word c.e.kind) (line_numbers E c)
    ++ labelled_line (codes "M" ++ kind_word c.m.kind) (line_numbers M c)
    ++ labelled_line (codes "W" ++ kind_word c.w.kind) (line_numbers W c)

-- names are those of the rows of PIPE's table, w is the falsifying valuation
unfoldable pub pipe_no : List (List ℕ) → ℕ → List Bool → List Atom → List ℕ
pipe_no names rule w atoms = codes "no O" ++ numeral 10 1 rule ++ codes "\n" ++ pipe_lines (fields_of w) ++ atoms_line names w bit_count atoms

-- ---- the settings

abbrev pub digit : Bool → List ℕ
digit true = codes "1"
digit false = codes "0"

abbrev pub digits : List Bool → List ℕ
digits [] = []
digits (b ∷ more) = digit b ++ digits more

unfoldable pub pipe_yes : Settings → List ℕ
pipe_yes s =
    codes "yes pt=" ++ digits s.pt ++ codes " pb=" ++ digits s.pb ++ codes " tv=" ++ digit s.tv ++ codes " lf=" ++ digit s.lf
    ++ codes " je=" ++ digit s.je ++ codes " rm=" ++ digit s.rm ++ codes "\n"
