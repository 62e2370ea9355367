-- What an HCL file for SEQ+ has to meet at the lines of a valuation: the rules S1 to S15 of SEQ, over its own rows, and
-- S16 for the PC that it computes as the cycle begins.
use Rattle.std.specs.Prelude.{ℕ, Bool, not, ◌||◌, ◌==◌, if◌then◌else◌}
use Rattle.y86_base.specs.declared.parts.Variant.{Variant}
use Rattle.y86_isa.specs.Table.{row}
use Rattle.ctl_atoms.specs.declared.leaf.Leaf.{Leaf}
use Rattle.ctl_atoms.specs.Leaves.{Assignment}
use Rattle.y86_base.specs.Words.{set}
use Rattle.ctl_rules.specs.ColumnDemands.{picks_some_leaf, next_leaf}
use Rattle.seq_obligations.specs.Obligations.{rule_count, shared_demand}
use Rattle.dp_signals.specs.declared.sequential_rows.SignalRows.{SignalRows}
use Rattle.seq_plus.specs.PlusNames as signal
use Rattle.seq_check.specs.Fields.{Fields, allowed}

-- the rows of SEQ+'s signals
abbrev pub signals : SignalRows
signals = signal.plus

-- S16: the PC picks the address to which the previous instruction, of this icode, leads: its constant for a call, and
-- for a jump whose condition held; the word that a ret loaded; else the address after it
abbrev pub next_demand : Variant → Fields → (ℕ → Leaf) → Bool
next_demand v c cv = picks_some_leaf cv signal.pc (next_leaf (row v c.icode).next signal.pValP signal.pValC signal.pValM (set c.cnd))

-- the demand of rule i
unfoldable pub demand_at : Variant → ℕ → Fields → Assignment → (ℕ → Leaf) → Bool
demand_at v i c α cv = if i == rule_count then next_demand v c cv else shared_demand signals i (row v c.line.icode) c.line α cv

-- the obligation: lines that aren't allowed meet it
abbrev pub obligation : Variant → ℕ → Fields → Assignment → (ℕ → Leaf) → Bool
obligation v i c α cv = not (allowed v c) || demand_at v i c α cv
