-- The lines P and S of a control valuation of SEQ+: what the previous instruction left, and what one cycle reads, as
-- numbers; and the lines that an instruction can have.
use Rattle.std.specs.Prelude.{ℕ, Bool, ◌&&◌, List, ◌∷◌, length, get_or, nat_lt, drop}
use Rattle.y86_base.specs.declared.parts.Variant.{Variant}
use Rattle.y86_isa.specs.Table.{rows}
use Rattle.net_fields.specs.declared.field_specs.FieldSpec.{FieldSpec}
use Rattle.net_fields.specs.FieldSpecs.{decoded, number_among}
use Rattle.seq_obligations.specs.Fields as seq
use Rattle.seq_plus.specs.PlusNames as signal

-- pIcode and pCnd, and the line S
pub record Fields : Type 0 where
  pub icode : ℕ
  pub cnd : ℕ
  pub line : seq.Fields

-- the table of the fields, in the order of the variables
abbrev pub spots : List FieldSpec
spots = seq.spot seq.p_icode signal.pIcode ∷ seq.spot seq.p_cnd signal.pCnd ∷ seq.line_spots seq.plus_line signal.plus

-- the fields as numbers in the order of the table, and back
abbrev pub numbers : Fields → List ℕ
numbers c = c.icode ∷ c.cnd ∷ seq.numbers c.line

abbrev pub fields_by : List ℕ → Fields
fields_by xs = record { icode = get_or xs 0 0; cnd = get_or xs 1 0; line = seq.fields_by (drop 2 xs) }

-- the number that the lines give a signal that is a field, and 0 for any other
abbrev pub number_of : Fields → ℕ → ℕ
number_of c name = number_among spots (numbers c) name

-- the fields that bits spell
unfoldable pub fields_of : List Bool → Fields
fields_of w = fields_by (decoded spots 0 w)

-- the icode is that of an instruction that goes on, in a table with count rows: any but halt
abbrev pub goes_on : ℕ → ℕ → Bool
goes_on count icode = nat_lt 0 icode && nat_lt icode count

-- the lines are ones that a valuation of this instruction set can have: a cycle goes on only after an instruction that
-- does, with any condition
unfoldable pub allowed : Variant → Fields → Bool
allowed v c = goes_on (length (rows v)) c.icode && seq.allowed v c.line
