-- The premises of the gates of the stages' rules: the fields are among the variables, and the signals in the rules
-- have control values; and what the row of an icode demands of some of these signals.
use Rattle.std.specs.Prelude.{ℕ, ◌≤◌, ◌||◌, not, IsTrue, List, Bool}
use Rattle.ctl_atoms.specs.declared.leaf.Leaf.{Leaf}
use Rattle.ctl_picks.specs.declared.controls.Entry.{Entry}
use Rattle.ctl_picks.specs.Picks.{has_gate, has_picks}
use Rattle.dp_signals.specs.PipeNames as signal
use Rattle.pipe_fields.specs.Layout.{Fields, bit_count}
use Rattle.ctl_rules.specs.ColumnDemands.{picks_some_leaf, is_number, operand_leaf_a, operand_leaf_b, address_leaf}
use Rattle.y86_isa.specs.Blocks.{alu_function}
use Rattle.y86_isa.specs.RowTests.{has_operand_a}
use Rattle.y86_isa.specs.declared.columns.Row.{Row}
use Rattle.pipe_stage_gates.specs.declared.row_rules.RowRule.{RowRule}
use Rattle.pipe_stage_gates.specs.declared.row_rules.RowRule.TheVariants.{OperandA, OperandB, Function, Address}

pub record IsReady (vars : ℕ) (ctl : List Entry) : Type 0 where
  pub fields : bit_count ≤ vars
  pub aluA : IsTrue (has_picks ctl signal.aluA)
  pub aluB : IsTrue (has_picks ctl signal.aluB)
  pub alufun : IsTrue (has_picks ctl signal.alufun)
  pub set_cc : IsTrue (has_gate ctl signal.set_cc)
  pub e_valA : IsTrue (has_picks ctl signal.e_valA)
  pub e_dstE : IsTrue (has_picks ctl signal.e_dstE)
  pub mem_addr : IsTrue (has_picks ctl signal.mem_addr)
  pub mem_read : IsTrue (has_gate ctl signal.mem_read)
  pub mem_write : IsTrue (has_gate ctl signal.mem_write)
  pub m_stat : IsTrue (has_picks ctl signal.m_stat)
  pub w_dstE : IsTrue (has_picks ctl signal.w_dstE)
  pub w_valE : IsTrue (has_picks ctl signal.w_valE)
  pub w_dstM : IsTrue (has_picks ctl signal.w_dstM)
  pub w_valM : IsTrue (has_picks ctl signal.w_valM)
  pub Stat : IsTrue (has_picks ctl signal.Stat)

-- the operands and the function of the ALU in E, where it is used, and the address in M
abbrev pub demand_of_row : RowRule → Row → Fields → (ℕ → Leaf) → Bool
demand_of_row OperandA r c cv = picks_some_leaf cv signal.aluA (operand_leaf_a r.alu_a signal.E_valA signal.E_valC)
demand_of_row OperandB r c cv = picks_some_leaf cv signal.aluB (operand_leaf_b r.alu_b signal.E_valB)
demand_of_row Function r c cv = not (has_operand_a r.alu_a) || is_number cv signal.alufun (alu_function r.selects c.e.ifun)
demand_of_row Address r c cv = picks_some_leaf cv signal.mem_addr (address_leaf r.memory signal.M_valA signal.M_valE)
