-- The gates of the 16 rules of SEQ+, and of each sequential datapath.
use Rattle.std.specs.Prelude.{ℕ, ◌+◌, ◌≤◌, IsTrue, List, ◌∷◌}
use Rattle.y86_base.specs.declared.parts.Variant.{Variant}
use Rattle.nets.specs.Nets.{Gates}
use Rattle.hcl_types.specs.declared.term.Term.{Term}
use Rattle.ctl_picks.specs.Picks.{has_picks}
use Rattle.ctl_picks.specs.declared.controls.Entry.{Entry}
use Rattle.ctl_given.specs.declared.places.Place.{Place}
use Rattle.net_fields.specs.FieldSpecs.{total}
use Rattle.ctl_rules.specs.declared.rules.Rule.{Rule}
use Rattle.seq_obligations.specs.Fields.{p_cnd, p_icode, plus_line}
use Rattle.seq_obligations.specs.Rules.{AreDesignedRules, AreSeqRules}
use Rattle.seq_obligations.specs.Signals.{IsReady, line_places, place}
use Rattle.seq_plus.specs.PlusNames as signal
use Rattle.seq_plus.specs.PlusTable.{plus_rows}
use Rattle.seq_check.specs.Fields.{fields_of, number_of, spots}
use Rattle.seq_check.specs.Obligations.{obligation, signals}
use Rattle.hcl_types.specs.declared.table.SequentialDatapath.{SequentialDatapath}
use Rattle.hcl_types.specs.declared.table.SequentialDatapath.TheVariants.{Seq, SeqPlus}

-- the facts on which the gates of the rules depend: the fields are among the variables, and the signals that the rules
-- use have control values
pub record IsPlusReady (vars : ℕ) (ctl : List Entry) : Type 0 where
  pub shared : IsReady signals plus_line vars ctl
  pub code : p_cnd.first + p_cnd.bits ≤ vars
  pub pc : IsTrue (has_picks ctl signal.pc)

-- the places of the signals that are fields
abbrev pub places : List Place
places = place p_icode signal.pIcode ∷ place p_cnd signal.pCnd ∷ line_places plus_line signals

-- the 16 rules of a design in their order: each gate is the obligation
abbrev pub ArePlusRules : Variant → List Term → Gates → List Rule → Type 0
ArePlusRules v = AreDesignedRules plus_rows (λ w. number_of (fields_of w)) (total spots) (λ i w α cv. obligation v i (fields_of w) α cv)

-- the 16 rules of a design for a sequential datapath, in their order
abbrev pub AreRulesOf : SequentialDatapath → Variant → List Term → Gates → List Rule → Type 0
AreRulesOf Seq v terms net list = AreSeqRules v terms net list
AreRulesOf SeqPlus v terms net list = ArePlusRules v terms net list
