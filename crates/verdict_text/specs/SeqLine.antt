-- The output of a `no` of SEQ and of SEQ+: the obligation, the lines of the valuation, and its atoms.
use Rattle.std.specs.Prelude.{ℕ, Bool, codes, List, [], ◌∷◌, ◌++◌, map}
use Rattle.y86_base.specs.Numeral.{numeral}
use Rattle.ctl_atoms.specs.declared.leaf.Atom.{Atom}
use Rattle.seq_obligations.specs.Fields.{Fields, LineField, bit_count, fields_of, line_fields, plus_bit_count}
use Rattle.verdict_text.specs.Atoms.{atoms_line}
use Rattle.verdict_text.specs.Fields.{Labelled, field, labelled_line}

-- the numbers of the line S
unfoldable pub seq_numbers : Fields → List Labelled
seq_numbers c = map (λ (x : LineField). field x.label (x.number c)) line_fields

-- those of the line P of SEQ+: the icode of the previous instruction, and whether its condition held
unfoldable pub previous_numbers : ℕ → ℕ → List Labelled
previous_numbers icode cnd = field (codes "icode") icode ∷ field (codes "cnd") cnd ∷ []

-- names are those of the rows of SEQ's table, w is the falsifying valuation
unfoldable pub seq_no : List (List ℕ) → ℕ → List Bool → List Atom → List ℕ
seq_no names rule w atoms = codes "no S" ++ numeral 10 1 rule ++ codes "\n" ++ labelled_line (codes "S") (seq_numbers (fields_of w)) ++ atoms_line names w bit_count atoms

-- the same for SEQ+, with the numbers of its line P and the fields of its line S
unfoldable pub plus_no : List (List ℕ) → ℕ → ℕ → ℕ → Fields → List Bool → List Atom → List ℕ
plus_no names rule icode cnd c w atoms =
    codes "no S" ++ numeral 10 1 rule ++ codes "\n" ++ labelled_line (codes "P") (previous_numbers icode cnd) ++ labelled_line (codes "S") (seq_numbers c)
    ++ atoms_line names w plus_bit_count atoms
