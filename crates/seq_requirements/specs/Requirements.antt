-- What the obligations of SEQ and SEQ+ require at a valuation, signal by signal.
-- An obligation is met exactly if each requirement is (`IsByRequirements`).
use Rattle.std.specs.Prelude.{ℕ, ◌≡◌, Bool, ◌==◌, List, [], ◌∷◌, get_or, if◌then◌else◌}
use Rattle.y86_base.specs.declared.parts.Variant.{Variant}
use Rattle.y86_base.specs.Stat.{stat_number}
use Rattle.y86_base.specs.Words.{set}
use Rattle.y86_isa.specs.declared.columns.Row.{Row}
use Rattle.y86_isa.specs.Table.{row}
use Rattle.y86_isa.specs.RowTests.{has_operand_a}
use Rattle.y86_isa.specs.Blocks.{register_number, destination_e, alu_function, is_load, is_store, fetch_status}
use Rattle.hcl_types.specs.Lists.{each}
use Rattle.ctl_atoms.specs.declared.leaf.Leaf.{Leaf}
use Rattle.ctl_atoms.specs.declared.leaf.Leaf.TheVariants.{Number}
use Rattle.ctl_atoms.specs.Leaves.{Assignment}
use Rattle.ctl_rules.specs.ColumnDemands.{operand_leaf_a, operand_leaf_b, address_leaf, word_leaf, next_leaf}
use Rattle.dp_signals.specs.SeqNames as seq_row
use Rattle.findings.specs.Requirements.{is_met, requirement_of, number, truth, some_word, only_if, unless}
use Rattle.findings.specs.declared.requirement.Requirement.{Requirement}
use Rattle.findings.specs.declared.requirement.Wanted.TheVariants as wanted
use Rattle.seq_obligations.specs.Fields.{Fields}
use Rattle.seq_obligations.specs.Obligations as seq_rule
use Rattle.dp_signals.specs.declared.sequential_rows.SignalRows.{SignalRows}
use Rattle.seq_plus.specs.PlusNames as plus_row
use Rattle.seq_check.specs.Fields as plus
use Rattle.seq_check.specs.Datapaths.{demand_of, line_of, signals_of}
use Rattle.hcl_types.specs.declared.table.SequentialDatapath.{SequentialDatapath}
use Rattle.hcl_types.specs.declared.table.SequentialDatapath.TheVariants.{Seq, SeqPlus}

-- ---- the obligations that both datapaths share

-- the fetch or the data access faults
abbrev pub faulted : Fields → Bool
faulted c = seq_rule.faulted c

abbrev pub required1 : SignalRows → Fields → List Requirement
required1 s c = requirement_of s.icode (wanted.Word (Number c.icode)) ∷ number s.ifun c.ifun

abbrev pub required6 : SignalRows → Row → Fields → List Requirement
required6 s r c = number s.dst_e (destination_e r.conditional (set c.cnd) (register_number r.dst_e c.r_a c.r_b))

abbrev pub required10 : SignalRows → Row → Fields → List Requirement
required10 s r c = only_if (has_operand_a r.alu_a) (number s.alufun (alu_function r.selects c.ifun))

abbrev pub required13 : SignalRows → Row → List Requirement
required13 s r = requirement_of s.mem_read (wanted.Truth (is_load r.memory)) ∷ truth s.mem_write (is_store r.memory)

-- what the obligations but the last require, in their order
abbrev pub shared_required : SignalRows → Row → Fields → List (List Requirement)
shared_required s r c =
    required1 s c ∷
    truth s.need_regids r.has_byte ∷
    truth s.need_val_c r.has_const ∷
    number s.src_a (register_number r.src_a c.r_a c.r_b) ∷
    number s.src_b (register_number r.src_b c.r_a c.r_b) ∷
    required6 s r c ∷
    number s.dst_m (register_number r.dst_m c.r_a c.r_b) ∷
    some_word s.alu_a (operand_leaf_a r.alu_a s.val_a s.val_c) ∷
    some_word s.alu_b (operand_leaf_b r.alu_b s.val_b) ∷
    required10 s r c ∷
    truth s.set_cc r.sets_flags ∷
    some_word s.mem_addr (address_leaf r.memory s.val_a s.val_e) ∷
    required13 s r ∷
    some_word s.mem_data (word_leaf r.memory s.val_a s.val_p) ∷
    number s.stat (stat_number (fetch_status (faulted c) c.icode)) ∷ []

unfoldable pub shared_requirements : SignalRows → ℕ → Row → Fields → List Requirement
shared_requirements s i r c = get_or ([] ∷ shared_required s r c) i []

-- ---- the PC, the last obligation of each

-- SEQ: new_pc is the address to which the instruction leads; one that faults needs none
abbrev pub seq_next : Row → Fields → List Requirement
seq_next r c = unless (faulted c) (some_word seq_row.new_pc (next_leaf r.next seq_row.valP seq_row.valC seq_row.valM (set c.cnd)))

-- SEQ+: pc is the address to which the previous instruction, of this icode and condition, leads
abbrev pub plus_next : Variant → ℕ → ℕ → List Requirement
plus_next v icode cnd = some_word plus_row.pc (next_leaf (row v icode).next plus_row.pValP plus_row.pValC plus_row.pValM (set cnd))

-- ---- by the numbers of the fields

-- the line S, and the row of its icode
abbrev pub line_in : SequentialDatapath → List ℕ → Fields
line_in which xs = line_of which xs

abbrev pub row_of : SequentialDatapath → Variant → List ℕ → Row
row_of which v xs = row v (line_of which xs).icode

abbrev pub next_requirements : SequentialDatapath → Variant → List ℕ → List Requirement
next_requirements Seq v xs = seq_next (row_of Seq v xs) (line_of Seq xs)
next_requirements SeqPlus v xs = plus_next v (plus.fields_by xs).icode (plus.fields_by xs).cnd

-- what obligation i requires
abbrev pub requirements : SequentialDatapath → Variant → List ℕ → ℕ → List Requirement
requirements which v xs i =
    if i == seq_rule.rule_count then next_requirements which v xs else shared_requirements (signals_of which) i (row_of which v xs) (line_of which xs)

-- obligation i is met exactly if each of its requirements is
abbrev pub IsByRequirements : SequentialDatapath → Variant → List ℕ → Assignment → (ℕ → Leaf) → ℕ → Type 0
IsByRequirements which v xs α cv i = demand_of which v i xs α cv ≡ each (is_met α cv) (requirements which v xs i)
