-- The two sequential datapaths: the fields of a valuation, and what their obligations demand of the numbers of the
-- fields.
use Rattle.std.specs.Prelude.{ℕ, Bool, not, ◌||◌, List}
use Rattle.y86_base.specs.declared.parts.Variant.{Variant}
use Rattle.ctl_atoms.specs.declared.leaf.Leaf.{Leaf}
use Rattle.ctl_atoms.specs.Leaves.{Assignment}
use Rattle.net_fields.specs.declared.field_specs.FieldSpec.{FieldSpec}
use Rattle.dp_signals.specs.SeqNames as seq_row
use Rattle.seq_obligations.specs.Fields as seq
use Rattle.seq_obligations.specs.Obligations as seq_rule
use Rattle.dp_signals.specs.declared.sequential_rows.SignalRows.{SignalRows}
use Rattle.seq_plus.specs.PlusNames as plus_row
use Rattle.seq_plus.specs.Datapaths.{rows_of}
use Rattle.seq_check.specs.Fields as plus
use Rattle.seq_check.specs.Obligations as plus_rule
use Rattle.ctl_verdicts.specs.ObligationSet.{ObligationSet}
use Rattle.hcl_types.specs.declared.table.SequentialDatapath.{SequentialDatapath}
use Rattle.hcl_types.specs.declared.table.SequentialDatapath.TheVariants.{Seq, SeqPlus}

-- the fields of a valuation, in the order of its variables
abbrev pub spots_of : SequentialDatapath → List FieldSpec
spots_of Seq = seq.spots
spots_of SeqPlus = plus.spots

-- the row of the first definition
abbrev pub defined_of : SequentialDatapath → ℕ
defined_of Seq = seq_row.defined
defined_of SeqPlus = plus_row.defined

-- the rows of the signals that the obligations are about
abbrev pub signals_of : SequentialDatapath → SignalRows
signals_of Seq = seq_rule.seq_signals
signals_of SeqPlus = plus_rule.signals

-- the line S with these numbers of the fields
abbrev pub line_of : SequentialDatapath → List ℕ → seq.Fields
line_of Seq xs = seq.fields_by xs
line_of SeqPlus xs = (plus.fields_by xs).line

-- whether a valuation can have these numbers
abbrev pub allowed_of : SequentialDatapath → Variant → List ℕ → Bool
allowed_of Seq v xs = seq.allowed v (seq.fields_by xs)
allowed_of SeqPlus v xs = plus.allowed v (plus.fields_by xs)

-- what obligation i demands if they are allowed
abbrev pub demand_of : SequentialDatapath → Variant → ℕ → List ℕ → Assignment → (ℕ → Leaf) → Bool
demand_of Seq v i xs α cv = seq_rule.demand_at v i (seq.fields_by xs) α cv
demand_of SeqPlus v i xs α cv = plus_rule.demand_at v i (plus.fields_by xs) α cv

-- the obligations of the datapath on a design
abbrev pub questions_of : SequentialDatapath → Variant → ObligationSet
questions_of which v = record {
  rows = rows_of which;
  spots = spots_of which;
  count = seq_rule.rule_count;
  asks = λ i xs α cv. not (allowed_of which v xs) || demand_of which v i xs α cv;
}
