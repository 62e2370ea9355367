-- What the obligations before those on motion require at a valuation, signal by signal.
-- An obligation is met exactly where each requirement is (`IsByRequirements`).
use Rattle.std.specs.Prelude.{ℕ, ◌≡◌, Bool, false, ◌&&◌, ◌||◌, List, [], ◌∷◌, ◌++◌, get_or, if◌then◌else◌}
use Rattle.y86_base.specs.declared.parts.Variant.{Variant}
use Rattle.y86_base.specs.Stat.{stat_number}
use Rattle.y86_base.specs.Words.{set}
use Rattle.y86_isa.specs.Table.{row, no_register}
use Rattle.y86_isa.specs.RowTests.{has_operand_a, stores_val_a, select_a_is_val_p, select_a_is_val_a}
use Rattle.y86_isa.specs.Blocks.{fetch_status, register_number, alu_function, is_load, is_store}
use Rattle.hcl_types.specs.Lists.{each}
use Rattle.ctl_atoms.specs.declared.leaf.Leaf.{Leaf}
use Rattle.ctl_atoms.specs.declared.leaf.Leaf.TheVariants.{Name, Number}
use Rattle.ctl_atoms.specs.Leaves.{Assignment}
use Rattle.ctl_rules.specs.ColumnDemands.{is_number, operand_leaf_a, operand_leaf_b, address_leaf}
use Rattle.pipe_fields.specs.Layout.{Fields}
use Rattle.pipe_motion.specs.Flow.{Flow, RegisterControls, leaves}
use Rattle.pipe_motion.specs.Predictions.{predicts}
use Rattle.pipe_motion.specs.declared.settings.Settings.{Settings}
use Rattle.pipe_obligations.specs.Obligations as rule
use Rattle.pipe_obligations.specs.Rules.{demand}
use Rattle.dp_signals.specs.PipeNames as signal
use Rattle.findings.specs.Requirements.{is_met, requirement_of, word, number, truth, some_word, only_if, unless}
use Rattle.findings.specs.declared.requirement.Requirement.{Requirement}
use Rattle.findings.specs.declared.requirement.Wanted.TheVariants as wanted

-- the first obligation on motion: those before it require something of signals; it and those behind it don't
abbrev pub first_on_motion : ℕ
first_on_motion = 23

-- requirements and motion don't read the truth of any atom
abbrev pub unread : Assignment
unread kind left right = false

module _ (v : Variant) (s : Settings) (c : Fields) (y : Flow) (mv : RegisterControls) (cv : ℕ → Leaf) where
  -- ---- fetch

  abbrev pub required1 : List Requirement
  required1 = requirement_of signal.f_icode (wanted.Word (Number c.f.icode)) ∷ number signal.f_ifun c.f.ifun

  abbrev pub required2 : List Requirement
  required2 = number signal.f_stat (stat_number (fetch_status (set c.f.error) c.f.icode))

  abbrev pub required3 : List Requirement
  required3 = truth signal.need_regids (row v c.f.icode).has_byte

  abbrev pub required4 : List Requirement
  required4 = truth signal.need_valC (row v c.f.icode).has_const

  abbrev pub required5 : List Requirement
  required5 = unless (set c.f.error) (some_word signal.f_predPC (rule.predicted_leaf (row v c.f.icode).next (predicts s c.f.ifun (set c.f.back))))

  -- ---- decode

  abbrev pub required6 : List Requirement
  required6 = number signal.d_srcA (register_number (row v c.d.icode).src_a c.d.r_a c.d.r_b)

  abbrev pub required7 : List Requirement
  required7 = number signal.d_srcB (register_number (row v c.d.icode).src_b c.d.r_a c.d.r_b)

  abbrev pub required8 : List Requirement
  required8 = number signal.d_dstE (register_number (row v c.d.icode).dst_e c.d.r_a c.d.r_b)

  abbrev pub required9 : List Requirement
  required9 = number signal.d_dstM (register_number (row v c.d.icode).dst_m c.d.r_a c.d.r_b)

  -- a source's value; if it isn't known yet, no word is right: the instruction has to wait
  abbrev pub right_word : Bool → ℕ → ℕ → ℕ → List Requirement
  right_word free name source rest =
      unless (is_number cv source no_register)
      (if rule.loaded_in_e v s c y mv unread cv source then unless free (requirement_of name wanted.Nothing ∷ []) else word name (rule.right_value v s c y mv unread cv source rest))

  abbrev pub required10 : List Requirement
  required10 =
      only_if (leaves mv y)
      (only_if (select_a_is_val_p (row v c.d.icode)) (word signal.d_valA (Name signal.D_valP))
      ++ right_word (s.lf && stores_val_a (row v c.d.icode).memory) signal.d_valA signal.d_srcA signal.d_rvalA)

  abbrev pub required11 : List Requirement
  required11 = only_if (leaves mv y) (right_word false signal.d_valB signal.d_srcB signal.d_rvalB)

  -- ---- execute

  abbrev pub required12 : List Requirement
  required12 = only_if (rule.works_in_e v s c y mv unread cv) (some_word signal.aluA (operand_leaf_a (row v c.e.icode).alu_a signal.E_valA signal.E_valC))

  abbrev pub required13 : List Requirement
  required13 = only_if (rule.works_in_e v s c y mv unread cv) (some_word signal.aluB (operand_leaf_b (row v c.e.icode).alu_b signal.E_valB))

  abbrev pub required14 : List Requirement
  required14 =
      only_if (rule.works_in_e v s c y mv unread cv && has_operand_a (row v c.e.icode).alu_a)
      (number signal.alufun (alu_function (row v c.e.icode).selects c.e.ifun))

  abbrev pub required15 : List Requirement
  required15 = truth signal.set_cc (rule.works_in_e v s c y mv unread cv && (row v c.e.icode).sets_flags)

  abbrev pub required16 : List Requirement
  required16 =
      only_if (y.e.good && (select_a_is_val_a (row v c.e.icode) || select_a_is_val_p (row v c.e.icode)))
      (word signal.e_valA (if rule.word_comes_late v s c y mv unread cv then Name signal.m_valM else Name signal.E_valA))

  abbrev pub required17 : List Requirement
  required17 = unless y.e.wrong (number signal.e_dstE (rule.late_dst_e v s c y mv unread cv))

  -- ---- memory

  abbrev pub required18 : List Requirement
  required18 = only_if y.m.good (some_word signal.mem_addr (address_leaf (row v c.m.icode).memory signal.M_valA signal.M_valE))

  abbrev pub required19 : List Requirement
  required19 =
      requirement_of signal.mem_read (wanted.Truth (y.m.good && is_load (row v c.m.icode).memory))
      ∷ truth signal.mem_write (y.m.good && is_store (row v c.m.icode).memory)

  abbrev pub required20 : List Requirement
  required20 = number signal.m_stat (if set c.m.error then 3 else c.m.stat)

  -- ---- write back

  abbrev pub required21 : List Requirement
  required21 =
      only_if y.w.good
      (requirement_of signal.w_dstE (wanted.Word (Number c.w.dst_e)) ∷ requirement_of signal.w_dstM (wanted.Word (Number c.w.dst_m))
      ∷ requirement_of signal.w_valE (wanted.Word (Name signal.W_valE)) ∷ word signal.w_valM (Name signal.W_valM))

  abbrev pub required22 : List Requirement
  required22 = number signal.Stat (if y.w.good then c.w.stat else 1)

  -- what the obligations before those on motion require, in their order
  abbrev pub required : List (List Requirement)
  required =
      required1 ∷ required2 ∷ required3 ∷ required4 ∷ required5 ∷ required6 ∷ required7 ∷ required8 ∷
      required9 ∷ required10 ∷ required11 ∷ required12 ∷ required13 ∷ required14 ∷ required15 ∷ required16 ∷
      required17 ∷ required18 ∷ required19 ∷ required20 ∷ required21 ∷ required22 ∷ []

  unfoldable pub requirements : ℕ → List Requirement
  requirements i = get_or ([] ∷ required) i []

-- obligation i is met exactly where each of its requirements is
abbrev pub IsByRequirements : Variant → Settings → Fields → Flow → RegisterControls → Assignment → (ℕ → Leaf) → ℕ → Type 0
IsByRequirements v s c y mv α cv i = demand i v s c y mv α cv ≡ each (is_met α cv) (requirements v s c y mv cv i)
