-- The values of a cycle are those of the instructions in E and M.
use Rattle.std.proofs.Common.{◌≡◌, ◌≢◌, ℕ, Bool, true, false, ◌&&◌, ◌||◌, ◌==◌, cond, List, None, refl, sym, ap, ◌∙◌, ne_of_lt}
use Rattle.std.proofs.lemmas.Bool.{false≢true, eq-eqb, or_left, or_right, and_left, and_right}
use Rattle.y86_base.specs.Stat.{stat_number}
use Rattle.y86_base.specs.declared.parts.Stat.TheVariants.{Adr}
use Rattle.y86_base.specs.declared.parts.Stat.{Stat}
use Rattle.y86_isa.specs.Blocks.{alu_flags, alu_function, condition, data_address, data_error, data_read, data_store, data_word, is_load, is_store, operand_a, operand_b, stored}
use Rattle.y86_isa.specs.RowTests.{accesses, select_a_is_val_p, has_operand_a, next_is_branch, address_is_val_a, stores_val_a, stores_val_p, operand_is_val_a, operand_is_val_b, address_is_val_e}
use Rattle.y86_isa.specs.Run.{IsImage}
use Rattle.y86_isa.specs.Table.{row}
use Rattle.y86_isa.specs.declared.columns.MemoryColumn.TheVariants.{LoadA, LoadE, NoMem, StoreA, StoreP}
use Rattle.y86_isa.specs.declared.columns.MemoryColumn.{MemoryColumn}
use Rattle.y86_isa.specs.declared.columns.Row.{Row}
use Rattle.y86_isa.specs.declared.columns.AluAColumn.TheVariants.{Minus8, NoA, Plus8, ValA, ValC}
use Rattle.y86_isa.specs.declared.columns.AluAColumn.{AluAColumn}
use Rattle.y86_isa.specs.declared.columns.AluBColumn.TheVariants.{NoB, ValB, Zero}
use Rattle.y86_isa.specs.declared.columns.AluBColumn.{AluBColumn}
use Rattle.y86_isa.specs.declared.machine.Rec.{Rec}
use Rattle.y86_isa.specs.declared.work.Work.{Work}
use Rattle.y86_isa.proofs.RowsAgree.{operands_agree, sources_agree}
use Rattle.y86_isa.proofs.RowColumns.{error_by, read_by}
use Rattle.yis_run_laws.specs.Instructions.{work_at, instruction_row}
use Rattle.yis_run_laws.proofs.Statuses.{stat_one}
use Rattle.yis_run_laws.proofs.Walk.{aok-from_operand, follows, source_a, source_b}
use Rattle.dp_signals.specs.PipeCycle.{next_flags, store_of}
use Rattle.dp_signals.specs.PipeNames as name
use Rattle.dp_signals.specs.PipeRows.{PipeHardware}
use Rattle.y86_base.specs.Words.{set}
use Rattle.dp_signals.specs.declared.pipe_state.PipeState.{PipeState}
use Rattle.dp_signals.proofs.Bits.{set_bit}
use Rattle.pipe_refinement.specs.Facts.{AccessFacts, AddressIs, ExecuteFacts, FlagsIs, store_word_comes_late, late_dst_e}
use Rattle.pipe_refinement.specs.Invariant.{RunContext, HoldsInE, HoldsInM, CouplingInvariant}
use Rattle.pipe_refinement.specs.Kinds.{Schedule, in_e, in_m, is_good, is_wrong}
use Rattle.pipe_refinement.proofs.Views.{and_on}

operand_a-same : (t : AluAColumn) (a a' val_c : ℕ) → (operand_is_val_a t ≡ true → a ≡ a') → operand_a t a val_c ≡ operand_a t a' val_c
operand_a-same NoA a a' val_c h = refl
operand_a-same ValA a a' val_c h = h refl
operand_a-same ValC a a' val_c h = refl
operand_a-same Minus8 a a' val_c h = refl
operand_a-same Plus8 a a' val_c h = refl

operand_b-same : (t : AluBColumn) (b b' : ℕ) → (operand_is_val_b t ≡ true → b ≡ b') → operand_b t b ≡ operand_b t b'
operand_b-same NoB b b' h = refl
operand_b-same Zero b b' h = refl
operand_b-same ValB b b' h = h refl

no_exempt : (lf s g : Bool) → s ≡ false → (lf && (s && g)) ≡ false
no_exempt true s g e = rw e refl
no_exempt false s g e = refl

address_by : (a : MemoryColumn) (va va' ve ve' : ℕ) → (address_is_val_a a ≡ true → va ≡ va') → (address_is_val_e a ≡ true → ve ≡ ve') → data_address a va ve ≡ data_address a va' ve'
address_by NoMem va va' ve ve' g h = refl
address_by StoreA va va' ve ve' g h = h refl
address_by StoreP va va' ve ve' g h = h refl
address_by LoadE va va' ve ve' g h = h refl
address_by LoadA va va' ve ve' g h = g refl

-- the word that is stored: M's valA
word_by : (a : MemoryColumn) (branch : Bool) (va vp m_a x y : ℕ) (fault : Bool) → (accesses a ≡ true → x ≡ y) →
    (stores_val_a a ≡ true → m_a ≡ va) → (stores_val_p a ≡ true → m_a ≡ vp) →
    data_store x m_a (is_store a) fault ≡ data_store y (data_word a va vp) (is_store a) fault
unfolding data_store
word_by NoMem branch va vp m_a x y fault h s p = refl
word_by StoreA branch va vp m_a x y fault h s p = rw (h refl, s refl) refl
word_by StoreP branch va vp m_a x y fault h s p = rw (h refl, p refl) refl
word_by LoadE branch va vp m_a x y fault h s p = refl
word_by LoadA branch va vp m_a x y fault h s p = refl

pub stored_none : (memory : List ℕ) → stored memory None ≡ memory
unfolding stored
stored_none memory = refl

module _ (x : RunContext) (t : ℕ) (c : Schedule) (p : PipeState) (f : ℕ → ℕ) (rs : List Rec) (image : IsImage x.image)
    (i : CouplingInvariant x t c p rs) (b : PipeHardware x.v p f) (a : AccessFacts x.v p f c) where
  -- ---- M
  module _ (me : AddressIs x.v p f c) (m : is_good c.m ≡ true) where
    h : HoldsInM x (in_m c) p.m
    h = i.good_m m

    abbrev w : Work
    w = work_at x.v x.image (in_m c)

    abbrev r : Row
    r = instruction_row x.v x.image (in_m c)

    row_m : row x.v p.m.icode ≡ r
    row_m = ap (row x.v) h.icode

    kept : stores_val_a r.memory || address_is_val_a r.memory ≡ true → p.m.val_a ≡ w.val_a
    kept e = h.val_a (or_left _ _ e) ∙ rw ((sources_agree x.v w.icode).one_carried e) refl

    kept_p : stores_val_p r.memory ≡ true → p.m.val_a ≡ w.val_p
    kept_p e = let q : select_a_is_val_p r ≡ true = or_left _ _ e in h.val_a (or_right _ _ q) ∙ rw q refl

    address : accesses r.memory ≡ true → f name.mem_addr ≡ w.address
    address e =
        me m (rw row_m e) ∙ ap (λ r. data_address r.memory p.m.val_a p.m.val_e) row_m
        ∙ address_by r.memory _ _ _ _ (λ l. kept (or_right _ _ l)) (λ u. h.val_e ((operands_agree x.v w.icode).address u))
        ∙ sym (follows x.v x.image (in_m c)).address

    m_reads : set (f name.mem_read) ≡ is_load r.memory
    m_reads = a.reads ∙ and_on _ _ m ∙ ap (λ r. is_load r.memory) row_m

    m_writes : set (f name.mem_write) ≡ is_store r.memory
    m_writes = a.writes ∙ and_on _ _ m ∙ ap (λ r. is_store r.memory) row_m

    pub m_valM_is : f name.m_valM ≡ w.val_m
    m_valM_is =
        b.m_valM ∙ ap (data_read p.mem (f name.mem_addr)) m_reads ∙ read_by r.memory p.mem _ _ address
        ∙ ap (λ z. data_read z w.address (is_load r.memory)) i.mem ∙ sym (follows x.v x.image (in_m c)).val_m

    pub fault_is : set (f name.dmem_error) ≡ w.fault
    fault_is =
        ap set b.dmem_error ∙ set_bit _ ∙ ap (λ z. data_error p.mem (f name.mem_addr) z (set (f name.mem_write))) m_reads
        ∙ ap (data_error p.mem (f name.mem_addr) (is_load r.memory)) m_writes ∙ error_by r.memory p.mem _ _ address
        ∙ ap (λ z. data_error z w.address (is_load r.memory) (is_store r.memory)) i.mem ∙ sym (follows x.v x.image (in_m c)).fault

    pub store_is : store_of p f ≡ w.store
    store_is =
        ap (λ z. data_store (f name.mem_addr) p.m.val_a z (set (f name.dmem_error))) m_writes
        ∙ ap (data_store (f name.mem_addr) p.m.val_a (is_store r.memory)) fault_is
        ∙ word_by r.memory (next_is_branch r.next) w.val_a w.val_p _ _ _ w.fault address (λ s. kept (or_left _ _ s)) kept_p
        ∙ sym (follows x.v x.image (in_m c)).store

    pub m_stat_is : f name.m_stat ≡ cond (set (f name.dmem_error)) 3 p.m.stat → f name.m_stat ≡ stat_number w.stat
    m_stat_is e =
        e ∙ ap (λ z. cond z 3 p.m.stat) fault_is ∙ ap (cond w.fault 3) h.stat ∙ number_by w.fault w.fetch_stat ∙ sym (ap stat_number (follows x.v x.image (in_m c)).stat)
      where
        number_by : (b : Bool) (s : Stat) → cond b 3 (stat_number s) ≡ stat_number (cond b Adr s)
        number_by true s = refl
        number_by false s = refl

  -- an M that isn't good stores nothing
  pub no_store : is_good c.m ≡ false → store_of p f ≡ None
  unfolding data_store
  no_store m = ap (λ z. data_store (f name.mem_addr) p.m.val_a z (set (f name.dmem_error))) (a.writes ∙ and_left _ _ m)

  -- an E that isn't good sets no flags
  pub same_flags : FlagsIs x.v p f c → is_good c.e ≡ false → next_flags p f ≡ p.flags
  same_flags fl e = ap (λ z. cond z (alu_flags (f name.alufun) (f name.aluA) (f name.aluB)) p.flags) (fl ∙ and_left _ _ e)

  -- ---- E
  module _ (fl : FlagsIs x.v p f c) (ex : ExecuteFacts x.v x.s p f c) (e : is_good c.e ≡ true) where
    he : HoldsInE x (in_e c) (store_word_comes_late x.s x.v p (is_good c.m)) p.e
    he = i.good_e e

    abbrev we : Work
    we = work_at x.v x.image (in_e c)

    abbrev re : Row
    re = instruction_row x.v x.image (in_e c)

    row_e : row x.v p.e.icode ≡ re
    row_e = ap (row x.v) he.icode

    pub cnd_is : set (f name.e_Cnd) ≡ we.cnd
    cnd_is = ap set b.e_Cnd ∙ set_bit _ ∙ rw (ap (λ k. condition k p.flags) he.ifun, i.flags) refl ∙ sym (follows x.v x.image (in_e c)).cnd

    pub dst_e_is : is_wrong c.e ≡ false → f name.e_dstE ≡ we.dst_e
    dst_e_is n = ex.dst_e n ∙ rw (row_e, cnd_is, he.dst_e) refl ∙ sym (follows x.v x.image (in_e c)).dst_e

    pub late_is : late_dst_e x.v p f ≡ we.dst_e
    late_is = rw (row_e, cnd_is, he.dst_e) refl ∙ sym (follows x.v x.image (in_e c)).dst_e

    takes : operand_is_val_a re.alu_a ≡ true → p.e.val_a ≡ we.val_a
    takes k =
        he.val_a (ne_of_lt (source_a x.v x.image (in_e c) image ((sources_agree x.v we.icode).alu_a k)))
        (no_exempt x.s.lf _ _ (ap (λ r. stores_val_a r.memory) row_e ∙ late (stores_val_a re.memory) refl))
      where
        late : (s : Bool) → stores_val_a re.memory ≡ s → stores_val_a re.memory ≡ false
        late true s = absurd (false≢true (sym ((sources_agree x.v we.icode).stored s) ∙ k))
        late false s = s

    ok : has_operand_a re.alu_a ≡ true → p.e.stat ≡ 1
    ok k = he.stat ∙ stat_one _ (aok-from_operand x.v x.image (in_e c) k)

    alu_a_is : has_operand_a re.alu_a ≡ true → f name.aluA ≡ operand_a re.alu_a we.val_a we.val_c
    alu_a_is k = ex.alu_a e (ok k) (rw row_e k) ∙ rw (row_e, he.val_c) refl ∙ operand_a-same re.alu_a _ _ _ takes

    alu_b_is : has_operand_a re.alu_a ≡ true → f name.aluB ≡ operand_b re.alu_b we.val_b
    alu_b_is k = ex.alu_b e (ok k) (rw row_e k) ∙ rw row_e refl
        ∙ operand_b-same re.alu_b _ _ (λ z. he.val_b (ne_of_lt (source_b x.v x.image (in_e c) image ((sources_agree x.v we.icode).alu_b z))))

    alufun_is : has_operand_a re.alu_a ≡ true → f name.alufun ≡ alu_function re.selects we.ifun
    alufun_is k = ex.alufun e (ok k) (rw row_e k) ∙ rw (row_e, he.ifun) refl

    pub val_e_is : has_operand_a re.alu_a ≡ true → f name.e_valE ≡ we.val_e
    val_e_is k = b.e_valE ∙ rw (alufun_is k, alu_a_is k, alu_b_is k) refl ∙ sym (follows x.v x.image (in_e c)).val_e

    pub flags_are : next_flags p f ≡ we.flags
    flags_are = by re.sets_flags refl
      where
        set_is : set (f name.set_cc) ≡ (p.e.stat == 1) && re.sets_flags
        set_is = fl ∙ and_on _ _ e ∙ ap (λ r. (p.e.stat == 1) && r.sets_flags) row_e

        by : (s : Bool) → re.sets_flags ≡ s → next_flags p f ≡ we.flags
        by true s =
            let k = (operands_agree x.v we.icode).flags s in
            let one : (p.e.stat == 1) ≡ true = eq-eqb _ _ (ok k) in
            let on : set (f name.set_cc) ≡ true = set_is ∙ rw (one, s) refl in
            let set_to : next_flags p f ≡ alu_flags (alu_function re.selects we.ifun) (operand_a re.alu_a we.val_a we.val_c) (operand_b re.alu_b we.val_b) =
            rw (on, alufun_is k, alu_a_is k, alu_b_is k) refl in
            let want : we.flags ≡ alu_flags (alu_function re.selects we.ifun) (operand_a re.alu_a we.val_a we.val_c) (operand_b re.alu_b we.val_b) =
            (follows x.v x.image (in_e c)).flags ∙ rw s refl in
            set_to ∙ sym want
        by false s =
            ap (λ z. cond z (alu_flags (f name.alufun) (f name.aluA) (f name.aluB)) p.flags) (set_is ∙ ap (λ z. (p.e.stat == 1) && z) s ∙ and_right (p.e.stat == 1) false refl)
            ∙ i.flags ∙ sym ((follows x.v x.image (in_e c)).flags ∙ rw s refl)
