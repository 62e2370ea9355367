-- The fields of a control valuation of PIPE: five lines of numbers, and the bits that spell them.
use Rattle.std.specs.Prelude.{ℕ, ◌+◌, List, [], ◌∷◌, ◌++◌, length, map, codes, Bool, get_or, Option, Some, None}
use Rattle.dp_signals.specs.PipeNames as signal
use Rattle.net_fields.specs.declared.field_specs.BitRange.{BitRange}
use Rattle.net_fields.specs.declared.field_specs.FieldSpec.{FieldSpec}
use Rattle.net_fields.specs.FieldSpecs as table

-- the kind of what a stage holds
abbrev pub bubble : ℕ
bubble = 0

abbrev pub good : ℕ
good = 1

abbrev pub wrong : ℕ
wrong = 2

-- ---- the lines

-- what is fetched: imem_error, imem_icode and imem_ifun. No signal reads the last three: whether a jump is taken, whether the instruction
-- stops at memory, and whether the valC of a jump is below its valP, as signed numbers
pub record FetchLine : Type 0 where
  pub error : ℕ
  pub icode : ℕ
  pub ifun : ℕ
  pub taken : ℕ
  pub stops : ℕ
  pub back : ℕ

-- what D holds
pub record DecodeLine : Type 0 where
  pub kind : ℕ
  pub stat : ℕ
  pub icode : ℕ
  pub ifun : ℕ
  pub r_a : ℕ
  pub r_b : ℕ
  pub taken : ℕ
  pub stops : ℕ
  pub back : ℕ

-- what E holds, and e_Cnd
pub record ExecuteLine : Type 0 where
  pub kind : ℕ
  pub stat : ℕ
  pub icode : ℕ
  pub ifun : ℕ
  pub dst_e : ℕ
  pub dst_m : ℕ
  pub src_a : ℕ
  pub src_b : ℕ
  pub cnd : ℕ
  pub stops : ℕ
  pub back : ℕ

-- what M holds with M_Cnd, and dmem_error
pub record MemoryLine : Type 0 where
  pub kind : ℕ
  pub stat : ℕ
  pub icode : ℕ
  pub ifun : ℕ
  pub dst_e : ℕ
  pub dst_m : ℕ
  pub cnd : ℕ
  pub error : ℕ
  pub back : ℕ

-- what W holds
pub record WriteLine : Type 0 where
  pub kind : ℕ
  pub stat : ℕ
  pub icode : ℕ
  pub dst_e : ℕ
  pub dst_m : ℕ

pub record Fields : Type 0 where
  pub f : FetchLine
  pub d : DecodeLine
  pub e : ExecuteLine
  pub m : MemoryLine
  pub w : WriteLine

-- ---- the table of the fields

-- a field: its label in output, its number of bits and the row of its signal (none if it is hidden), and how its
-- number is read from the fields
pub record Field : Type 0 where
  pub label : List ℕ
  pub spec : FieldSpec
  pub number : Fields → ℕ

-- a field that is a signal, and a hidden one
abbrev read_by : List ℕ → ℕ → ℕ → (Fields → ℕ) → Field
read_by label bits name number = record { label = label; spec = record { bits = bits; name = Some name }; number = number }

abbrev hidden : List ℕ → ℕ → (Fields → ℕ) → Field
hidden label bits number = record { label = label; spec = record { bits = bits; name = None }; number = number }

-- in the order of the variables: the kinds of D, E, M and W, then the lines F, D, E, M and W
abbrev pub kind_fields : List Field
kind_fields =
    hidden (codes "kind") 2 (λ c. c.d.kind)
    ∷ hidden (codes "kind") 2 (λ c. c.e.kind)
    ∷ hidden (codes "kind") 1 (λ c. c.m.kind)
    ∷ hidden (codes "kind") 1 (λ c. c.w.kind)
    ∷ []

abbrev pub fetch_fields : List Field
fetch_fields =
    read_by (codes "error") 1 signal.imem_error (λ c. c.f.error)
    ∷ read_by (codes "icode") 4 signal.imem_icode (λ c. c.f.icode)
    ∷ read_by (codes "ifun") 4 signal.imem_ifun (λ c. c.f.ifun)
    ∷ hidden (codes "taken") 1 (λ c. c.f.taken)
    ∷ hidden (codes "stops") 1 (λ c. c.f.stops)
    ∷ hidden (codes "back") 1 (λ c. c.f.back)
    ∷ []

abbrev pub decode_fields : List Field
decode_fields =
    read_by (codes "stat") 3 signal.D_stat (λ c. c.d.stat)
    ∷ read_by (codes "icode") 4 signal.D_icode (λ c. c.d.icode)
    ∷ read_by (codes "ifun") 4 signal.D_ifun (λ c. c.d.ifun)
    ∷ read_by (codes "rA") 4 signal.D_rA (λ c. c.d.r_a)
    ∷ read_by (codes "rB") 4 signal.D_rB (λ c. c.d.r_b)
    ∷ hidden (codes "taken") 1 (λ c. c.d.taken)
    ∷ hidden (codes "stops") 1 (λ c. c.d.stops)
    ∷ hidden (codes "back") 1 (λ c. c.d.back)
    ∷ []

abbrev pub execute_fields : List Field
execute_fields =
    read_by (codes "stat") 3 signal.E_stat (λ c. c.e.stat)
    ∷ read_by (codes "icode") 4 signal.E_icode (λ c. c.e.icode)
    ∷ read_by (codes "ifun") 4 signal.E_ifun (λ c. c.e.ifun)
    ∷ read_by (codes "dstE") 4 signal.E_dstE (λ c. c.e.dst_e)
    ∷ read_by (codes "dstM") 4 signal.E_dstM (λ c. c.e.dst_m)
    ∷ read_by (codes "srcA") 4 signal.E_srcA (λ c. c.e.src_a)
    ∷ read_by (codes "srcB") 4 signal.E_srcB (λ c. c.e.src_b)
    ∷ read_by (codes "cnd") 1 signal.e_Cnd (λ c. c.e.cnd)
    ∷ hidden (codes "stops") 1 (λ c. c.e.stops)
    ∷ hidden (codes "back") 1 (λ c. c.e.back)
    ∷ []

abbrev pub memory_fields : List Field
memory_fields =
    read_by (codes "stat") 3 signal.M_stat (λ c. c.m.stat)
    ∷ read_by (codes "icode") 4 signal.M_icode (λ c. c.m.icode)
    ∷ read_by (codes "ifun") 4 signal.M_ifun (λ c. c.m.ifun)
    ∷ read_by (codes "dstE") 4 signal.M_dstE (λ c. c.m.dst_e)
    ∷ read_by (codes "dstM") 4 signal.M_dstM (λ c. c.m.dst_m)
    ∷ read_by (codes "cnd") 1 signal.M_Cnd (λ c. c.m.cnd)
    ∷ read_by (codes "error") 1 signal.dmem_error (λ c. c.m.error)
    ∷ hidden (codes "back") 1 (λ c. c.m.back)
    ∷ []

abbrev pub write_fields : List Field
write_fields =
    read_by (codes "stat") 3 signal.W_stat (λ c. c.w.stat)
    ∷ read_by (codes "icode") 4 signal.W_icode (λ c. c.w.icode)
    ∷ read_by (codes "dstE") 4 signal.W_dstE (λ c. c.w.dst_e)
    ∷ read_by (codes "dstM") 4 signal.W_dstM (λ c. c.w.dst_m)
    ∷ []

abbrev pub all_fields : List Field
all_fields = kind_fields ++ fetch_fields ++ decode_fields ++ execute_fields ++ memory_fields ++ write_fields

abbrev pub field_specs : List FieldSpec
field_specs = map (λ (x : Field). x.spec) all_fields

-- the index of the first field of each line; F begins after the kinds
abbrev pub f_first : ℕ
f_first = length kind_fields

abbrev pub d_first : ℕ
d_first = f_first + length fetch_fields

abbrev pub e_first : ℕ
e_first = d_first + length decode_fields

abbrev pub m_first : ℕ
m_first = e_first + length execute_fields

abbrev pub w_first : ℕ
w_first = m_first + length memory_fields

-- the number of fields, and their total number of bits
abbrev pub field_count : ℕ
field_count = w_first + length write_fields

abbrev pub bit_count : ℕ
bit_count = 107

-- the fields as numbers in the order of the table, and back; a line is read from its kind and from the index of its
-- first number
abbrev pub numbers : Fields → List ℕ
numbers c = map (λ (x : Field). x.number c) all_fields

abbrev fetch_by : List ℕ → ℕ → FetchLine
fetch_by xs at =
    record {
      error = get_or xs at 0;
      icode = get_or xs (at + 1) 0;
      ifun = get_or xs (at + 2) 0;
      taken = get_or xs (at + 3) 0;
      stops = get_or xs (at + 4) 0;
      back = get_or xs (at + 5) 0;
    }

abbrev decode_by : ℕ → List ℕ → ℕ → DecodeLine
decode_by kind xs at =
    record {
      kind = kind;
      stat = get_or xs at 0;
      icode = get_or xs (at + 1) 0;
      ifun = get_or xs (at + 2) 0;
      r_a = get_or xs (at + 3) 0;
      r_b = get_or xs (at + 4) 0;
      taken = get_or xs (at + 5) 0;
      stops = get_or xs (at + 6) 0;
      back = get_or xs (at + 7) 0;
    }

abbrev execute_by : ℕ → List ℕ → ℕ → ExecuteLine
execute_by kind xs at =
    record {
      kind = kind;
      stat = get_or xs at 0;
      icode = get_or xs (at + 1) 0;
      ifun = get_or xs (at + 2) 0;
      dst_e = get_or xs (at + 3) 0;
      dst_m = get_or xs (at + 4) 0;
      src_a = get_or xs (at + 5) 0;
      src_b = get_or xs (at + 6) 0;
      cnd = get_or xs (at + 7) 0;
      stops = get_or xs (at + 8) 0;
      back = get_or xs (at + 9) 0;
    }

abbrev memory_by : ℕ → List ℕ → ℕ → MemoryLine
memory_by kind xs at =
    record {
      kind = kind;
      stat = get_or xs at 0;
      icode = get_or xs (at + 1) 0;
      ifun = get_or xs (at + 2) 0;
      dst_e = get_or xs (at + 3) 0;
      dst_m = get_or xs (at + 4) 0;
      cnd = get_or xs (at + 5) 0;
      error = get_or xs (at + 6) 0;
      back = get_or xs (at + 7) 0;
    }

abbrev write_by : ℕ → List ℕ → ℕ → WriteLine
write_by kind xs at =
    record {
      kind = kind;
      stat = get_or xs at 0;
      icode = get_or xs (at + 1) 0;
      dst_e = get_or xs (at + 2) 0;
      dst_m = get_or xs (at + 3) 0;
    }

abbrev pub fields_by : List ℕ → Fields
fields_by xs =
    record {
      f = fetch_by xs f_first;
      d = decode_by (get_or xs 0 0) xs d_first;
      e = execute_by (get_or xs 1 0) xs e_first;
      m = memory_by (get_or xs 2 0) xs m_first;
      w = write_by (get_or xs 3 0) xs w_first;
    }

-- each field has a number that its bits can spell
abbrev pub InRange : Fields → Type 0
InRange c = table.InRange field_specs (numbers c)

-- the fields that bits spell
unfoldable pub fields_of : List Bool → Fields
fields_of w = fields_by (table.decoded field_specs 0 w)

-- bits that spell the fields, followed by `behind`
abbrev pub pattern_of : Fields → List Bool → List Bool
pattern_of c behind = table.pattern field_specs (numbers c) behind

-- the place of a signal that is a field
unfoldable pub place_of : ℕ → Option BitRange
place_of name = table.place_from field_specs 0 name

-- the number of the field that a signal is; 0 for a signal that is no field
unfoldable pub number_of : Fields → ℕ → ℕ
number_of c name = table.number_among field_specs (numbers c) name
