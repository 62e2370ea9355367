-- An obligation is met exactly where each of its requirements is.
use Rattle.std.proofs.Common.{◌≡◌, ℕ, ◌<◌, ◌≤◌, Bool, true, false, ◌&&◌, ◌||◌, [], ◌∷◌, get_or, refl, ap}
use Rattle.y86_base.specs.declared.parts.Variant.{Variant}
use Rattle.y86_base.specs.Words.{set}
use Rattle.net_fields.proofs.EachBelow.{EachFrom, ◌▹◌, no_more, each_below}
use Rattle.y86_isa.specs.Table.{row, no_register}
use Rattle.y86_isa.specs.RowTests.{has_operand_a, stores_val_a, select_a_is_val_p, select_a_is_val_a}
use Rattle.y86_isa.specs.Blocks.{is_load, is_store}
use Rattle.hcl_types.specs.Lists.{each}
use Rattle.ctl_atoms.specs.declared.leaf.Leaf.{Leaf}
use Rattle.ctl_atoms.specs.declared.leaf.Leaf.TheVariants.{Name}
use Rattle.ctl_atoms.specs.Leaves.{Assignment}
use Rattle.ctl_rules.specs.ColumnDemands.{picks_leaf, is_number, is_truth, operand_leaf_a, operand_leaf_b, address_leaf}
use Rattle.pipe_fields.specs.Layout.{Fields}
use Rattle.pipe_motion.specs.Flow.{Flow, RegisterControls, leaves}
use Rattle.pipe_motion.specs.Predictions.{predicts}
use Rattle.pipe_motion.specs.declared.settings.Settings.{Settings}
use Rattle.pipe_obligations.specs.Obligations as rule
use Rattle.pipe_obligations.specs.Rules.{demands}
use Rattle.dp_signals.specs.PipeNames as signal
use Rattle.findings.specs.Requirements.{is_met, requirement_of, word, only_if, unless}
use Rattle.findings.specs.declared.requirement.Wanted.TheVariants as wanted
use Rattle.findings.proofs.EachMet.{one, two, if_both, guarded, excused, both, some_is}
use Rattle.pipe_requirements.specs.Requirements.{right_word, required1, required5, required10, required11, required12, required13, required14, required16, required17, required18, required19, required21, required, first_on_motion, requirements, IsByRequirements}

four : (a b c d : Bool) → (a && (b && (c && d))) ≡ (a && (b && (c && (d && true))))
four true true c d = two c d
four true false c d = refl
four false b c d = refl

module _ (v : Variant) (s : Settings) (c : Fields) (y : Flow) (mv : RegisterControls) (α : Assignment) (cv : ℕ → Leaf) where
  right_is : (free : Bool) (name source rest : ℕ) → rule.picks_right_value v s c y mv α cv free name source rest ≡ each (is_met α cv) (right_word v s c y mv cv free name source rest)
  right_is free name source rest =
      excused (is_met α cv) (is_number cv source no_register) _ _
      (if_both (is_met α cv) (rule.loaded_in_e v s c y mv α cv source) free _ _ _ (nothing free) (one (picks_leaf cv name (rule.right_value v s c y mv α cv source rest))))
    where
      nothing : (b : Bool) → b ≡ each (is_met α cv) (unless b (requirement_of name wanted.Nothing ∷ []))
      nothing true = refl
      nothing false = refl

  at1 : rule.o1 v s c y mv α cv ≡ each (is_met α cv) (required1 v s c y mv cv)
  at1 = ap (λ b. is_number cv signal.f_icode c.f.icode && b) (one (is_number cv signal.f_ifun c.f.ifun))

  at5 : rule.o5 v s c y mv α cv ≡ each (is_met α cv) (required5 v s c y mv cv)
  at5 = excused (is_met α cv) (set c.f.error) _ _ (some_is α cv signal.f_predPC (rule.predicted_leaf (row v c.f.icode).next (predicts s c.f.ifun (set c.f.back))))

  at10 : rule.o10 v s c y mv α cv ≡ each (is_met α cv) (required10 v s c y mv cv)
  at10 =
      guarded (is_met α cv) (leaves mv y) _ _
      (both (is_met α cv) _ _ (only_if (select_a_is_val_p (row v c.d.icode)) (word signal.d_valA (Name signal.D_valP))) _
      (guarded (is_met α cv) (select_a_is_val_p (row v c.d.icode)) _ _ (one (picks_leaf cv signal.d_valA (Name signal.D_valP))))
      (right_is (s.lf && stores_val_a (row v c.d.icode).memory) signal.d_valA signal.d_srcA signal.d_rvalA))

  at11 : rule.o11 v s c y mv α cv ≡ each (is_met α cv) (required11 v s c y mv cv)
  at11 = guarded (is_met α cv) (leaves mv y) _ _ (right_is false signal.d_valB signal.d_srcB signal.d_rvalB)

  at12 : rule.o12 v s c y mv α cv ≡ each (is_met α cv) (required12 v s c y mv cv)
  at12 = guarded (is_met α cv) (rule.works_in_e v s c y mv α cv) _ _ (some_is α cv signal.aluA (operand_leaf_a (row v c.e.icode).alu_a signal.E_valA signal.E_valC))

  at13 : rule.o13 v s c y mv α cv ≡ each (is_met α cv) (required13 v s c y mv cv)
  at13 = guarded (is_met α cv) (rule.works_in_e v s c y mv α cv) _ _ (some_is α cv signal.aluB (operand_leaf_b (row v c.e.icode).alu_b signal.E_valB))

  at14 : rule.o14 v s c y mv α cv ≡ each (is_met α cv) (required14 v s c y mv cv)
  at14 = guarded (is_met α cv) (rule.works_in_e v s c y mv α cv && has_operand_a (row v c.e.icode).alu_a) _ _ (one _)

  at16 : rule.o16 v s c y mv α cv ≡ each (is_met α cv) (required16 v s c y mv cv)
  at16 = guarded (is_met α cv) (y.e.good && (select_a_is_val_a (row v c.e.icode) || select_a_is_val_p (row v c.e.icode))) _ _ (one _)

  at17 : rule.o17 v s c y mv α cv ≡ each (is_met α cv) (required17 v s c y mv cv)
  at17 = excused (is_met α cv) y.e.wrong _ _ (one _)

  at18 : rule.o18 v s c y mv α cv ≡ each (is_met α cv) (required18 v s c y mv cv)
  at18 = guarded (is_met α cv) y.m.good _ _ (some_is α cv signal.mem_addr (address_leaf (row v c.m.icode).memory signal.M_valA signal.M_valE))

  at19 : rule.o19 v s c y mv α cv ≡ each (is_met α cv) (required19 v s c y mv cv)
  at19 = two (is_truth α cv signal.mem_read (y.m.good && is_load (row v c.m.icode).memory)) (is_truth α cv signal.mem_write (y.m.good && is_store (row v c.m.icode).memory))

  at21 : rule.o21 v s c y mv α cv ≡ each (is_met α cv) (required21 v s c y mv cv)
  at21 = guarded (is_met α cv) y.w.good _ _ (four (is_number cv signal.w_dstE c.w.dst_e) (is_number cv signal.w_dstM c.w.dst_m) (picks_leaf cv signal.w_valE (Name signal.W_valE)) (picks_leaf cv signal.w_valM (Name signal.W_valM)))

  abbrev IsSaid : ℕ → Type 0
  IsSaid n = get_or (true ∷ demands v s c y mv α cv) n true ≡ each (is_met α cv) (get_or ([] ∷ required v s c y mv cv) n [])

  -- no obligation has number 0
  each_said : EachFrom IsSaid 0 first_on_motion
  each_said =
      refl ▹
      at1 ▹
      (one _) ▹
      (one _) ▹
      (one _) ▹
      at5 ▹
      (one _) ▹
      (one _) ▹
      (one _) ▹
      (one _) ▹
      at10 ▹
      at11 ▹
      at12 ▹
      at13 ▹
      at14 ▹
      (one _) ▹
      at16 ▹
      at17 ▹
      at18 ▹
      at19 ▹
      (one _) ▹
      at21 ▹
      (one _) ▹
      no_more

  pub by_requirements : (i : ℕ) → 1 ≤ i → i < first_on_motion → IsByRequirements v s c y mv α cv i
  unfolding requirements
  by_requirements i ge lt = each_below IsSaid first_on_motion each_said i lt
