-- What is decided on designs for the two sequential datapaths, and the text of a `no`.
use Rattle.std.specs.Prelude.{ℕ, Bool, List, Option, Some, None}
use Rattle.ctl_atoms.specs.Atoms.{AreAtoms}
use Rattle.ctl_atoms.specs.declared.leaf.Atom.{Atom}
use Rattle.dp_signals.specs.SeqTable.{seq_rows}
use Rattle.hcl_types.specs.Tables.{row_names}
use Rattle.hcl_types.specs.declared.term.Term.{Term}
use Rattle.seq_plus.specs.PlusTable.{plus_rows}
use Rattle.seq_check.specs.Fields.{Fields, fields_of}
use Rattle.seq_check.specs.Verdicts.{Accepts, Refines, Rejects}
use Rattle.verdict_text.specs.SeqLine.{plus_no, seq_no}
use Rattle.y86_base.specs.declared.parts.Variant.{Variant}
use Rattle.hcl_types.specs.declared.table.SequentialDatapath.{SequentialDatapath}
use Rattle.hcl_types.specs.declared.table.SequentialDatapath.TheVariants.{Seq, SeqPlus}
use Rattle.cli_checks.specs.declared.sequential.SeqRejection.{SeqRejection}
use Rattle.seq_plus.specs.Datapaths.{rows_of}

-- None: the design is accepted, so its machine is that of the run of instructions. Some: the first obligation that is
-- false at some valuation, the least such valuation, and the design's atoms.
abbrev pub IsDecided : SequentialDatapath → Variant → List Term → Option SeqRejection → Type 0
IsDecided which v terms None = Accepts which v terms × Refines which v terms
IsDecided which v terms (Some d) = Rejects which v terms d.rule d.valuation.bits × AreAtoms (rows_of which) terms d.atoms

-- the text of a `no` for SEQ+, by the fields of its valuation
abbrev plus_text : List (List ℕ) → ℕ → Fields → List Bool → List Atom → List ℕ
plus_text names rule c w atoms = plus_no names rule c.icode c.cnd c.line w atoms

abbrev pub no_text : SequentialDatapath → ℕ → List Bool → List Atom → List ℕ
no_text Seq rule w atoms = seq_no (row_names seq_rows) rule w atoms
no_text SeqPlus rule w atoms = plus_text (row_names plus_rows) rule (fields_of w) w atoms
