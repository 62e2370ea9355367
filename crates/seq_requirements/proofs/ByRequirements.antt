-- An obligation is met exactly if each of its requirements is.
use Rattle.std.proofs.Common.{◌≡◌, ◌⊎◌, inl, inr, ℕ, Bool, true, ◌==◌, List, [], ◌∷◌, get_or, refl, sym, ap, ◌∙◌}
use Rattle.std.proofs.lemmas.Bool.{cases_lt}
use Rattle.std.proofs.lemmas.List.{get_or_past}
use Rattle.y86_base.specs.declared.parts.Variant.{Variant}
use Rattle.y86_base.specs.Words.{set}
use Rattle.net_fields.proofs.EachBelow.{EachFrom, ◌▹◌, no_more, each_below}
use Rattle.y86_isa.specs.declared.columns.Row.{Row}
use Rattle.y86_isa.specs.Table.{row}
use Rattle.y86_isa.specs.RowTests.{has_operand_a}
use Rattle.y86_isa.specs.Blocks.{is_load, is_store}
use Rattle.hcl_types.specs.Lists.{each}
use Rattle.ctl_atoms.specs.declared.leaf.Leaf.{Leaf}
use Rattle.ctl_atoms.specs.Leaves.{Assignment}
use Rattle.ctl_rules.specs.ColumnDemands.{is_number, is_truth, operand_leaf_a, operand_leaf_b, address_leaf, word_leaf, next_leaf}
use Rattle.dp_signals.specs.SeqNames as seq_row
use Rattle.findings.specs.Requirements.{is_met}
use Rattle.findings.specs.declared.requirement.Requirement.{Requirement}
use Rattle.findings.proofs.EachMet.{one, two, if_both, guarded, excused, some_is}
use Rattle.seq_obligations.specs.Fields as seq
use Rattle.seq_obligations.specs.Obligations.{demand_at as seq_demand_at, faulted, rule_count, shared_demand, shared_demands}
use Rattle.dp_signals.specs.declared.sequential_rows.SignalRows.{SignalRows}
use Rattle.seq_plus.specs.PlusNames as plus_row
use Rattle.seq_check.specs.Fields as plus
use Rattle.seq_check.specs.Obligations.{demand_at as plus_demand_at}
use Rattle.seq_check.specs.Datapaths.{line_of, signals_of}
use Rattle.seq_requirements.specs.Requirements.{IsByRequirements, row_of, shared_required, shared_requirements}
use Rattle.hcl_types.specs.declared.table.SequentialDatapath.{SequentialDatapath}
use Rattle.hcl_types.specs.declared.table.SequentialDatapath.TheVariants.{Seq, SeqPlus}

module _ (α : Assignment) (cv : ℕ → Leaf) where
  abbrev answers : SignalRows → Row → seq.Fields → List Bool
  answers s r c = true ∷ shared_demands s r c α cv

  abbrev needs : SignalRows → Row → seq.Fields → List (List Requirement)
  needs s r c = [] ∷ shared_required s r c

  abbrev IsSaid : SignalRows → Row → seq.Fields → ℕ → Type 0
  IsSaid s r c n = get_or (answers s r c) n true ≡ each (is_met α cv) (get_or (needs s r c) n [])

  -- no rule has number 0
  each_said : (s : SignalRows) (r : Row) (c : seq.Fields) → EachFrom (IsSaid s r c) 0 rule_count
  each_said s r c =
      refl ▹
      two (is_number cv s.icode c.icode) (is_number cv s.ifun c.ifun) ▹
      one _ ▹
      one _ ▹
      one _ ▹
      one _ ▹
      one _ ▹
      one _ ▹
      some_is α cv s.alu_a (operand_leaf_a r.alu_a s.val_a s.val_c) ▹
      some_is α cv s.alu_b (operand_leaf_b r.alu_b s.val_b) ▹
      guarded (is_met α cv) (has_operand_a r.alu_a) _ _ (one _) ▹
      one _ ▹
      some_is α cv s.mem_addr (address_leaf r.memory s.val_a s.val_e) ▹
      two (is_truth α cv s.mem_read (is_load r.memory)) (is_truth α cv s.mem_write (is_store r.memory)) ▹
      some_is α cv s.mem_data (word_leaf r.memory s.val_a s.val_p) ▹
      one _ ▹
      no_more

  shared_is : (s : SignalRows) (i : ℕ) (r : Row) (c : seq.Fields) → shared_demand s i r c α cv ≡ each (is_met α cv) (shared_requirements s i r c)
  unfolding shared_requirements
  shared_is s i r c = elim (cases_lt i rule_count) [
    | inl lt ↦ each_below (IsSaid s r c) rule_count (each_said s r c) i lt
    | inr ge ↦ get_or_past (answers s r c) i true ge ∙ ap (λ xs. each (is_met α cv) xs) (sym (get_or_past (needs s r c) i [] ge))
  ]

  pub by_requirements : (which : SequentialDatapath) (v : Variant) (xs : List ℕ) (i : ℕ) → IsByRequirements which v xs α cv i
  unfolding seq_demand_at plus_demand_at
  by_requirements Seq v xs i =
      let c = seq.fields_by xs in
      if_both (is_met α cv) (i == rule_count) _ _ _ _
      (excused (is_met α cv) (faulted c) _ _ (some_is α cv seq_row.new_pc (next_leaf (row v c.icode).next seq_row.valP seq_row.valC seq_row.valM (set c.cnd))))
      (shared_is (signals_of Seq) i (row_of Seq v xs) (line_of Seq xs))
  by_requirements SeqPlus v xs i =
      let c = plus.fields_by xs in
      if_both (is_met α cv) (i == rule_count) _ _ _ _
      (some_is α cv plus_row.pc (next_leaf (row v c.icode).next plus_row.pValP plus_row.pValC plus_row.pValM (set c.cnd)))
      (shared_is (signals_of SeqPlus) i (row_of SeqPlus v xs) (line_of SeqPlus xs))
