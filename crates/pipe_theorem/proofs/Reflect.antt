-- From the obligations of a real cycle's valuation to equations on its values.
use Rattle.std.proofs.Common.{◌≡◌, ◌≢◌, ℕ, ◌≤◌, Bool, true, false, not, ◌&&◌, ◌||◌, ◌==◌, cond, IfSome, refl, sym, ap, ◌∙◌, subst, arith}
use Rattle.pipe_refinement.proofs.Words.{and_four}
use Rattle.std.proofs.lemmas.Bool.{false≢true, and_from, eq-eqb, eqb-true, ne_eqb}
use Rattle.y86_isa.specs.Blocks.{alu_function, data_address, is_load, is_store, operand_a, operand_b, register_number}
use Rattle.y86_isa.specs.RowTests.{accesses, select_a_is_val_a, select_a_is_val_p, has_operand_a, has_operand_b, next_is_branch, stores_val_a}
use Rattle.y86_isa.specs.Table.{row}
use Rattle.y86_isa.specs.declared.columns.MemoryColumn.TheVariants.{LoadA, LoadE, NoMem, StoreA, StoreP}
use Rattle.y86_isa.specs.declared.columns.MemoryColumn.{MemoryColumn}
use Rattle.y86_isa.specs.declared.columns.NextPcColumn.TheVariants.{Branch, Fall, Itself, Loaded, Target}
use Rattle.y86_isa.specs.declared.columns.NextPcColumn.{NextPcColumn}
use Rattle.y86_isa.specs.declared.columns.AluAColumn.TheVariants.{Minus8, NoA, Plus8, ValA, ValC}
use Rattle.y86_isa.specs.declared.columns.AluAColumn.{AluAColumn}
use Rattle.y86_isa.specs.declared.columns.AluBColumn.TheVariants.{NoB, ValB, Zero}
use Rattle.y86_isa.specs.declared.columns.AluBColumn.{AluBColumn}
use Rattle.y86_isa.proofs.RowsAgree.{operands_agree}
use Rattle.nets.proofs.Truths.{agree_true}
use Rattle.hcl_types.specs.Terms.{signed_below}
use Rattle.dp_signals.specs.PipeNames as name
use Rattle.dp_signals.specs.PipeRows.{PipeHolds}
use Rattle.y86_base.specs.Words.{set}
use Rattle.y86_base.proofs.Booleans.{and_second, and_first, implied, unless}
use Rattle.dp_signals.specs.declared.pipe_state.PipeState.{PipeState}
use Rattle.ctl_atoms.specs.Leaves.{leaf_eq, leaf_holds}
use Rattle.ctl_atoms.specs.declared.leaf.Leaf.TheVariants.{Name, Number}
use Rattle.ctl_atoms.specs.declared.leaf.Leaf.{Leaf}
use Rattle.ctl_atoms.proofs.Listed.{apart}
use Rattle.ctl_equations.specs.Laws.{real_assignment, leaf_value}
use Rattle.ctl_equations.proofs.Worths.{leaf_worth, holds_is}
use Rattle.ctl_rules.specs.ColumnDemands.{address_leaf, is_number, is_truth, operand_leaf_a, operand_leaf_b, picks_leaf, picks_some_leaf}
use Rattle.pipe_motion.specs.Predictions.{predicts}
use Rattle.pipe_motion.specs.Flow.{RegisterControls}
use Rattle.pipe_fields.specs.Layout.{FetchLine}
use Rattle.pipe_obligations.specs.Obligations.{target_in_alu, code_of, fetched as fetched_at, register_controls_of, predicted_leaf, right_value as right_leaf, picks_right_value}
use Rattle.pipe_obligations.specs.Rules.{demand, rule_count}
use Rattle.pipe_obligations.specs.FileSettings.{alu_passes_target}
use Rattle.pipe_obligations.specs.StageFlows.{is_jump, is_ret, is_missed, stage_flow_by, stops_by}
use Rattle.pipe_refinement.specs.Facts.{AccessFacts, AddressIs, AlwaysFacts, DecodeFacts, ExecuteFacts, FetchFacts, MemoryFacts, WriteFacts, store_word_comes_late, late_dst_e, leaves_d, predicted_pc, right_value}
use Rattle.pipe_refinement.specs.Invariant.{RunContext, run_flow}
use Rattle.pipe_refinement.specs.Kinds.{Schedule, requested_controls, in_m, is_good, is_wrong}
use Rattle.pipe_theorem.proofs.Circle.{FTies}
use Rattle.pipe_theorem.proofs.RealCycle.{fault_of, fields_at, hidden}

-- ---- leaves

number_leaf : (a : Leaf) (k : ℕ) → leaf_eq a (Number k) ≡ true → a ≡ Number k
number_leaf (Name a) k h = cc
number_leaf (Number a) k h = ap Number (eqb-true a k h)

-- ---- truths

if_true : {A : Type 0} (b : Bool) (y z : A) → b ≡ true → cond b y z ≡ y
if_true b y z e = rw e refl

if_false : {A : Type 0} (b : Bool) (y z : A) → b ≡ false → cond b y z ≡ z
if_false b y z e = rw e refl

chain_is : (f : ℕ → ℕ) (a b c d e : Bool) (l m n o q r : Leaf) →
    leaf_value f (cond a l (cond b m (cond c n (cond d o (cond e q r)))))
    ≡ cond a (leaf_value f l) (cond b (leaf_value f m) (cond c (leaf_value f n) (cond d (leaf_value f o) (cond e (leaf_value f q) (leaf_value f r)))))
chain_is f true b c d e l m n o q r = refl
chain_is f false true c d e l m n o q r = refl
chain_is f false false true d e l m n o q r = refl
chain_is f false false false true e l m n o q r = refl
chain_is f false false false false true l m n o q r = refl
chain_is f false false false false false l m n o q r = refl

pub worth_if : (f : ℕ → ℕ) (b : Bool) (l m : Leaf) → leaf_value f (cond b l m) ≡ cond b (leaf_value f l) (leaf_value f m)
worth_if f true l m = refl
worth_if f false l m = refl

-- obligation i demands this of a cycle with these stall and bubble signals
abbrev pub Asks : RunContext → Schedule → PipeState → (ℕ → ℕ) → FetchLine → RegisterControls → (ℕ → Leaf) → ℕ → Type 0
Asks x c p f l mv cv i = demand i x.v x.s (fields_at x c p f l) (run_flow x c) mv (real_assignment f) cv ≡ true

abbrev pub AllAsked : RunContext → Schedule → PipeState → (ℕ → ℕ) → FetchLine → RegisterControls → (ℕ → Leaf) → Type 0
AllAsked x c p f l mv cv = (i : ℕ) → 1 ≤ i → i ≤ rule_count → Asks x c p f l mv cv i

-- ---- access to memory, with the agreement of one name alone
module _ (x : RunContext) (c : Schedule) (p : PipeState) (f : ℕ → ℕ) (l : FetchLine) (cv : ℕ → Leaf) (st : PipeHolds p f) (mv : RegisterControls) where
  truth_at : (n : ℕ) (want : Bool) → leaf_value f (cv n) ≡ f n → is_truth (real_assignment f) cv n want ≡ true → set (f n) ≡ want
  truth_at n want e h = ap set (sym e) ∙ sym (holds_is f (cv n)) ∙ agree_true want _ h

  pub access_at : leaf_value f (cv name.mem_read) ≡ f name.mem_read → leaf_value f (cv name.mem_write) ≡ f name.mem_write → Asks x c p f l mv cv 19 → AccessFacts x.v p f c
  unfolding fields_at run_flow
  access_at re wr h =
      record {
        reads = truth_at name.mem_read (is_good c.m && is_load (row x.v p.m.icode).memory) re (and_first (is_truth (real_assignment f) cv name.mem_read (is_good c.m && is_load (row x.v p.m.icode).memory)) (is_truth (real_assignment f) cv name.mem_write (is_good c.m && is_store (row x.v p.m.icode).memory)) h);
        writes = truth_at name.mem_write (is_good c.m && is_store (row x.v p.m.icode).memory) wr (and_second (is_truth (real_assignment f) cv name.mem_read (is_good c.m && is_load (row x.v p.m.icode).memory)) (is_truth (real_assignment f) cv name.mem_write (is_good c.m && is_store (row x.v p.m.icode).memory)) h);
      }

  address_by : (t : MemoryColumn) → leaf_value f (cv name.mem_addr) ≡ f name.mem_addr → picks_some_leaf cv name.mem_addr (address_leaf t name.M_valA name.M_valE) ≡ true → accesses t ≡ true →
      f name.mem_addr ≡ data_address t p.m.val_a p.m.val_e
  address_by NoMem ad h e = cc
  address_by StoreA ad h e = sym ad ∙ leaf_worth f (cv name.mem_addr) (Name name.M_valE) h ∙ st.M_valE
  address_by StoreP ad h e = sym ad ∙ leaf_worth f (cv name.mem_addr) (Name name.M_valE) h ∙ st.M_valE
  address_by LoadE ad h e = sym ad ∙ leaf_worth f (cv name.mem_addr) (Name name.M_valE) h ∙ st.M_valE
  address_by LoadA ad h e = sym ad ∙ leaf_worth f (cv name.mem_addr) (Name name.M_valA) h ∙ st.M_valA

  pub address_at : leaf_value f (cv name.mem_addr) ≡ f name.mem_addr → Asks x c p f l mv cv 18 → AddressIs x.v p f c
  unfolding fields_at run_flow
  address_at ad h g e =
      address_by (row x.v p.m.icode).memory ad (implied (is_good c.m) (picks_some_leaf cv name.mem_addr (address_leaf (row x.v p.m.icode).memory name.M_valA name.M_valE)) h g) e

-- ---- all of them, with the agreement of every name
module _ (x : RunContext) (c : Schedule) (p : PipeState) (f : ℕ → ℕ) (l : FetchLine) (cv : ℕ → Leaf)
    (st : PipeHolds p f) (agrees : (n : ℕ) → leaf_value f (cv n) ≡ f n) (tie : FTies x f l) where
  number_is : (n k : ℕ) → picks_leaf cv n (Number k) ≡ true → f n ≡ k
  number_is n k h = sym (agrees n) ∙ leaf_worth f (cv n) (Number k) h

  pick_is : (n : ℕ) (a : Leaf) → picks_leaf cv n a ≡ true → f n ≡ leaf_value f a
  pick_is n a h = sym (agrees n) ∙ leaf_worth f (cv n) a h

  truth_is : (n : ℕ) (want : Bool) → is_truth (real_assignment f) cv n want ≡ true → set (f n) ≡ want
  truth_is n want h = ap set (sym (agrees n)) ∙ sym (holds_is f (cv n)) ∙ agree_true want _ h

  holds_at : (n : ℕ) → leaf_holds (real_assignment f) (cv n) ≡ set (f n)
  holds_at n = holds_is f (cv n) ∙ ap set (agrees n)

  pub controls_are : register_controls_of (real_assignment f) cv ≡ requested_controls f
  controls_are =
      rw (
        holds_at name.F_stall,
        holds_at name.F_bubble,
        holds_at name.D_stall,
        holds_at name.D_bubble,
        holds_at name.E_stall,
        holds_at name.E_bubble,
        holds_at name.M_stall,
        holds_at name.M_bubble,
        holds_at name.W_stall,
        holds_at name.W_bubble,
      ) refl

  -- in stopping cycles too
  pub always : Asks x c p f l (requested_controls f) cv 15 → Asks x c p f l (requested_controls f) cv 19 → Asks x c p f l (requested_controls f) cv 22 → AlwaysFacts x.v p f c
  unfolding fields_at run_flow
  always a15 a19 a22 =
      record {
        flags = truth_is name.set_cc _ a15 ∙ three (is_good c.e) (p.e.stat == 1) (row x.v p.e.icode).sets_flags;
        access = access_at x c p f l cv st (requested_controls f) (agrees name.mem_read) (agrees name.mem_write) a19;
        stat = number_is name.Stat _ a22;
      }
    where
      three : (a b d : Bool) → (a && b) && d ≡ a && (b && d)
      three true b d = refl
      three false b d = refl

  module _ (q : AllAsked x c p f l (requested_controls f) cv) where
    a1 : Asks x c p f l (requested_controls f) cv 1
    a1 = q 1 (omega arith) (omega arith)

    a2 : Asks x c p f l (requested_controls f) cv 2
    a2 = q 2 (omega arith) (omega arith)

    -- ---- fetch
    pred_is : (n : NextPcColumn) (t t' : Bool) → picks_some_leaf cv name.f_predPC (predicted_leaf n t) ≡ true → (next_is_branch n ≡ true → t ≡ t') →
        IfSome (predicted_pc n (f name.f_valP) (f name.f_valC) t') (λ z. f name.f_predPC ≡ z)
    pred_is Itself t t' h e = tt
    pred_is Fall t t' h e = pick_is name.f_predPC (Name name.f_valP) h
    pred_is Branch t t' h e =
        pick_is name.f_predPC (cond t (Name name.f_valC) (Name name.f_valP)) h ∙ worth_if f t (Name name.f_valC) (Name name.f_valP)
        ∙ ap (λ z. cond z (f name.f_valC) (f name.f_valP)) (e refl)
    pred_is Target t t' h e = pick_is name.f_predPC (Name name.f_valC) h
    pred_is Loaded t t' h e = tt

    pub fetch_facts : FetchFacts x.v x.s f
    unfolding fields_at
    fetch_facts =
        record {
          icode = number_is name.f_icode l.icode (and_first (is_number cv name.f_icode l.icode) (is_number cv name.f_ifun l.ifun) a1) ∙ tie.icode;
          ifun = number_is name.f_ifun l.ifun (and_second (is_number cv name.f_icode l.icode) (is_number cv name.f_ifun l.ifun) a1) ∙ tie.ifun;
          stat = number_is name.f_stat _ a2 ∙ rw (tie.error, tie.icode) refl;
          regids = truth_is name.need_regids _ (q 3 (omega arith) (omega arith)) ∙ ap (λ z. (row x.v z).has_byte) tie.icode;
          constant = truth_is name.need_valC _ (q 4 (omega arith) (omega arith)) ∙ ap (λ z. (row x.v z).has_const) tie.icode;
          prediction = λ e. prediction_is (ap set tie.error ∙ e);
        }
      where
        prediction_is : set l.error ≡ false →
            IfSome (predicted_pc (row x.v (f name.imem_icode)).next (f name.f_valP) (f name.f_valC) (predicts x.s (f name.imem_ifun) (signed_below (f name.f_valC) (f name.f_valP))))
            (λ z. f name.f_predPC ≡ z)
        prediction_is off =
            subst
            (λ z. IfSome (predicted_pc (row x.v z).next (f name.f_valP) (f name.f_valC) (predicts x.s (f name.imem_ifun) (signed_below (f name.f_valC) (f name.f_valP)))) (λ w. f name.f_predPC ≡ w))
            tie.icode
            (pred_is (row x.v l.icode).next (predicts x.s l.ifun (set l.back)) _
            (unless (set l.error) (picks_some_leaf cv name.f_predPC (predicted_leaf (row x.v l.icode).next (predicts x.s l.ifun (set l.back)))) (q 5 (omega arith) (omega arith)) off)
            (λ br. rw (tie.ifun, tie.back (rw (← tie.icode) br)) refl))

    -- ---- decode
    chain : (source k rest : ℕ) → cv source ≡ Number k →
        leaf_value f (right_leaf x.v x.s (fields_at x c p f l) (run_flow x c) (requested_controls f) (real_assignment f) cv source rest) ≡ right_value x.v p f (is_good c.e) k (f rest)
    unfolding fields_at run_flow
    chain source k rest e =
        let r : leaf_value f (right_leaf x.v x.s (fields_at x c p f l) (run_flow x c) (requested_controls f) (real_assignment f) cv source rest)
        ≡ cond (is_good c.e && (k == late_dst_e x.v p f)) (f name.e_valE) (cond (k == p.m.dst_m) (f name.m_valM) (cond (k == p.m.dst_e) (f name.M_valE)
        (cond (k == p.w.dst_m) (f name.W_valM) (cond (k == p.w.dst_e) (f name.W_valE) (f rest))))) =
        rw e (chain_is f (is_good c.e && (k == late_dst_e x.v p f)) (k == p.m.dst_m) (k == p.m.dst_e) (k == p.w.dst_m) (k == p.w.dst_e)
        (Name name.e_valE) (Name name.m_valM) (Name name.M_valE) (Name name.W_valM) (Name name.W_valE) (Name rest)) in
        r ∙ rw (st.M_valE, st.W_valM, st.W_valE) refl

    -- the right value is demanded, or E loads the source
    right_asked : (free : Bool) (word source k rest : ℕ) → cv source ≡ Number k → k ≢ 15 →
        picks_right_value x.v x.s (fields_at x c p f l) (run_flow x c) (requested_controls f) (real_assignment f) cv free word source rest ≡ true →
        cond (is_good c.e && (k == p.e.dst_m)) free (picks_leaf cv word (right_leaf x.v x.s (fields_at x c p f l) (run_flow x c) (requested_controls f) (real_assignment f) cv source rest)) ≡ true
    unfolding fields_at run_flow
    right_asked free word source k rest e ne h =
        unless (k == 15) _ (sym (ap (λ a. leaf_eq a (Number 15) || cond (is_good c.e && leaf_eq a (Number p.e.dst_m)) free
        (picks_leaf cv word (right_leaf x.v x.s (fields_at x c p f l) (run_flow x c) (requested_controls f) (real_assignment f) cv source rest))) e) ∙ h) (ne_eqb k 15 ne)

    right_late : (free : Bool) (word source k rest : ℕ) → cv source ≡ Number k → k ≢ 15 →
        picks_right_value x.v x.s (fields_at x c p f l) (run_flow x c) (requested_controls f) (real_assignment f) cv free word source rest ≡ true →
        is_good c.e ≡ true → p.e.dst_m ≡ k → free ≡ true
    right_late free word source k rest e ne h g same =
        let w : is_good c.e && (k == p.e.dst_m) ≡ true = and_from (is_good c.e) (k == p.e.dst_m) g (eq-eqb k p.e.dst_m (sym same)) in
        sym (if_true (is_good c.e && (k == p.e.dst_m)) free _ w) ∙ right_asked free word source k rest e ne h

    right_pick : (free : Bool) (word source k rest : ℕ) → cv source ≡ Number k → k ≢ 15 →
        picks_right_value x.v x.s (fields_at x c p f l) (run_flow x c) (requested_controls f) (real_assignment f) cv free word source rest ≡ true →
        (is_good c.e ≡ true → p.e.dst_m ≢ k) → f word ≡ right_value x.v p f (is_good c.e) k (f rest)
    right_pick free word source k rest e ne h apart =
        pick_is word (right_leaf x.v x.s (fields_at x c p f l) (run_flow x c) (requested_controls f) (real_assignment f) cv source rest)
        (sym (if_false (is_good c.e && (k == p.e.dst_m)) free _ (none (is_good c.e) refl)) ∙ right_asked free word source k rest e ne h)
        ∙ chain source k rest e
      where
        none : (g : Bool) → is_good c.e ≡ g → is_good c.e && (k == p.e.dst_m) ≡ false
        none true g = rw (g, ne_eqb k p.e.dst_m (λ z. apart g (sym z))) refl
        none false g = rw g refl

    src_a_leaf : cv name.d_srcA ≡ Number (register_number (row x.v p.d.icode).src_a p.d.r_a p.d.r_b)
    unfolding fields_at
    src_a_leaf = number_leaf (cv name.d_srcA) _ (q 6 (omega arith) (omega arith))

    src_b_leaf : cv name.d_srcB ≡ Number (register_number (row x.v p.d.icode).src_b p.d.r_a p.d.r_b)
    unfolding fields_at
    src_b_leaf = number_leaf (cv name.d_srcB) _ (q 7 (omega arith) (omega arith))

    worth_leaf : (n k : ℕ) → cv n ≡ Number k → f n ≡ k
    worth_leaf n k e = sym (agrees n) ∙ ap (leaf_value f) e

    itself : (n k : ℕ) → cv n ≡ Number k → cv n ≡ Number (f n)
    itself n k e = e ∙ ap Number (sym (worth_leaf n k e))

    a10 : leaves_d f (is_good c.d) ≡ true →
        (not (select_a_is_val_p (row x.v p.d.icode)) || picks_leaf cv name.d_valA (Name name.D_valP))
        && picks_right_value x.v x.s (fields_at x c p f l) (run_flow x c) (requested_controls f) (real_assignment f) cv (x.s.lf && stores_val_a (row x.v p.d.icode).memory) name.d_valA name.d_srcA name.d_rvalA ≡ true
    unfolding fields_at run_flow
    a10 lv = implied (leaves_d f (is_good c.d)) _ (q 10 (omega arith) (omega arith)) lv

    right_a : leaves_d f (is_good c.d) ≡ true →
        picks_right_value x.v x.s (fields_at x c p f l) (run_flow x c) (requested_controls f) (real_assignment f) cv (x.s.lf && stores_val_a (row x.v p.d.icode).memory) name.d_valA name.d_srcA name.d_rvalA ≡ true
    right_a lv = and_second (not (select_a_is_val_p (row x.v p.d.icode)) || picks_leaf cv name.d_valA (Name name.D_valP)) _ (a10 lv)

    right_b : leaves_d f (is_good c.d) ≡ true → picks_right_value x.v x.s (fields_at x c p f l) (run_flow x c) (requested_controls f) (real_assignment f) cv false name.d_valB name.d_srcB name.d_rvalB ≡ true
    unfolding fields_at run_flow
    right_b lv = implied (leaves_d f (is_good c.d)) _ (q 11 (omega arith) (omega arith)) lv

    pub decode_facts : DecodeFacts x.v x.s p f c
    unfolding fields_at
    decode_facts =
        let sa = itself name.d_srcA _ src_a_leaf in
        let sb = itself name.d_srcB _ src_b_leaf in
        record {
          src_a = worth_leaf name.d_srcA _ src_a_leaf;
          src_b = worth_leaf name.d_srcB _ src_b_leaf;
          dst_e = number_is name.d_dstE _ (q 8 (omega arith) (omega arith));
          dst_m = number_is name.d_dstM _ (q 9 (omega arith) (omega arith));
          val_p = λ lv e.
              pick_is name.d_valA (Name name.D_valP)
              (implied (select_a_is_val_p (row x.v p.d.icode)) (picks_leaf cv name.d_valA (Name name.D_valP)) (and_first (not (select_a_is_val_p (row x.v p.d.icode)) || picks_leaf cv name.d_valA (Name name.D_valP)) _ (a10 lv)) e)
              ∙ st.D_valP;
          late_a = λ lv ne g e. right_late (x.s.lf && stores_val_a (row x.v p.d.icode).memory) name.d_valA name.d_srcA (f name.d_srcA) name.d_rvalA sa ne (right_a lv) g e;
          val_a = λ lv ne apart. right_pick (x.s.lf && stores_val_a (row x.v p.d.icode).memory) name.d_valA name.d_srcA (f name.d_srcA) name.d_rvalA sa ne (right_a lv) apart;
          late_b = λ lv ne g e. false≢true (right_late false name.d_valB name.d_srcB (f name.d_srcB) name.d_rvalB sb ne (right_b lv) g e);
          val_b = λ lv ne. right_pick false name.d_valB name.d_srcB (f name.d_srcB) name.d_rvalB sb ne (right_b lv)
              (λ g e. false≢true (right_late false name.d_valB name.d_srcB (f name.d_srcB) name.d_rvalB sb ne (right_b lv) g e));
        }

    -- ---- execute
    a_is : (t : AluAColumn) → picks_some_leaf cv name.aluA (operand_leaf_a t name.E_valA name.E_valC) ≡ true → has_operand_a t ≡ true → f name.aluA ≡ operand_a t p.e.val_a p.e.val_c
    a_is NoA h e = cc
    a_is ValA h e = pick_is name.aluA (Name name.E_valA) h ∙ st.E_valA
    a_is ValC h e = pick_is name.aluA (Name name.E_valC) h ∙ st.E_valC
    a_is Minus8 h e = pick_is name.aluA _ h
    a_is Plus8 h e = pick_is name.aluA _ h

    b_is : (t : AluBColumn) → picks_some_leaf cv name.aluB (operand_leaf_b t name.E_valB) ≡ true → has_operand_b t ≡ true → f name.aluB ≡ operand_b t p.e.val_b
    b_is NoB h e = cc
    b_is Zero h e = pick_is name.aluB _ h
    b_is ValB h e = pick_is name.aluB (Name name.E_valB) h ∙ st.E_valB

    works : is_good c.e ≡ true → p.e.stat ≡ 1 → is_good c.e && (p.e.stat == 1) ≡ true
    works g s = and_from (is_good c.e) (p.e.stat == 1) g (eq-eqb p.e.stat 1 s)

    jumps : is_good c.e ≡ true → p.e.stat ≡ 1 → next_is_branch (row x.v p.e.icode).next ≡ true → is_good c.e && is_jump x.v p.e.stat p.e.icode ≡ true
    jumps g s e = and_from (is_good c.e) (is_jump x.v p.e.stat p.e.icode) g (and_from (p.e.stat == 1) (next_is_branch (row x.v p.e.icode).next) (eq-eqb p.e.stat 1 s) e)

    a12 : is_good c.e && (p.e.stat == 1) ≡ true → picks_some_leaf cv name.aluA (operand_leaf_a (row x.v p.e.icode).alu_a name.E_valA name.E_valC) ≡ true
    unfolding fields_at run_flow
    a12 w = implied (is_good c.e && (p.e.stat == 1)) _ (q 12 (omega arith) (omega arith)) w

    a13 : is_good c.e && (p.e.stat == 1) ≡ true → picks_some_leaf cv name.aluB (operand_leaf_b (row x.v p.e.icode).alu_b name.E_valB) ≡ true
    unfolding fields_at run_flow
    a13 w = implied (is_good c.e && (p.e.stat == 1)) _ (q 13 (omega arith) (omega arith)) w

    a14 : (is_good c.e && (p.e.stat == 1)) && has_operand_a (row x.v p.e.icode).alu_a ≡ true → is_number cv name.alufun (alu_function (row x.v p.e.icode).selects p.e.ifun) ≡ true
    unfolding fields_at run_flow
    a14 w = implied ((is_good c.e && (p.e.stat == 1)) && has_operand_a (row x.v p.e.icode).alu_a) _ (q 14 (omega arith) (omega arith)) w

    a16 : is_good c.e && (select_a_is_val_a (row x.v p.e.icode) || select_a_is_val_p (row x.v p.e.icode)) ≡ true →
        picks_leaf cv name.e_valA (cond (store_word_comes_late x.s x.v p (is_good c.m)) (Name name.m_valM) (Name name.E_valA)) ≡ true
    unfolding fields_at run_flow
    a16 w = implied (is_good c.e && (select_a_is_val_a (row x.v p.e.icode) || select_a_is_val_p (row x.v p.e.icode))) _ (q 16 (omega arith) (omega arith)) w

    a17 : is_wrong c.e ≡ false → is_number cv name.e_dstE (late_dst_e x.v p f) ≡ true
    unfolding fields_at run_flow
    a17 n = unless (is_wrong c.e) _ (q 17 (omega arith) (omega arith)) n

    -- with the clause of the setting tv
    pub execute_facts : (x.s.tv ≡ true → target_in_alu x.v x.s (fields_at x c p f l) (run_flow x c) (requested_controls f) (real_assignment f) cv ≡ true) → ExecuteFacts x.v x.s p f c
    unfolding fields_at run_flow
    execute_facts alu_passes_target =
        record {
          alu_a = λ g s e. a_is (row x.v p.e.icode).alu_a (a12 (works g s)) e;
          alu_b = λ g s e. b_is (row x.v p.e.icode).alu_b (a13 (works g s)) ((operands_agree x.v p.e.icode).both e);
          alufun = λ g s e. number_is name.alufun _ (a14 (and_from (is_good c.e && (p.e.stat == 1)) (has_operand_a (row x.v p.e.icode).alu_a) (works g s) e));
          val_a = λ g e.
              let r : f name.e_valA ≡ cond (store_word_comes_late x.s x.v p (is_good c.m)) (f name.m_valM) (f name.E_valA) =
              pick_is name.e_valA (cond (store_word_comes_late x.s x.v p (is_good c.m)) (Name name.m_valM) (Name name.E_valA)) (a16 (and_from (is_good c.e) (select_a_is_val_a (row x.v p.e.icode) || select_a_is_val_p (row x.v p.e.icode)) g e))
              ∙ worth_if f (store_word_comes_late x.s x.v p (is_good c.m)) (Name name.m_valM) (Name name.E_valA) in
              r ∙ rw st.E_valA refl;
          dst_e = λ n. number_is name.e_dstE _ (a17 n);
          target = λ tv g s e.
              let h : picks_leaf cv name.aluA (Name name.E_valC) && (is_number cv name.aluB 0 && is_number cv name.alufun 0) ≡ true = implied (is_good c.e && is_jump x.v p.e.stat p.e.icode) _ (alu_passes_target tv) (jumps g s e) in
              let h1 = and_second (picks_leaf cv name.aluA (Name name.E_valC)) (is_number cv name.aluB 0 && is_number cv name.alufun 0) h in (
                pick_is name.aluA (Name name.E_valC) (and_first (picks_leaf cv name.aluA (Name name.E_valC)) (is_number cv name.aluB 0 && is_number cv name.alufun 0) h) ∙ st.E_valC,
                number_is name.aluB 0 (and_first (is_number cv name.aluB 0) (is_number cv name.alufun 0) h1),
                number_is name.alufun 0 (and_second (is_number cv name.aluB 0) (is_number cv name.alufun 0) h1),
              );
        }

    -- ---- memory and write back
    pub address_fact : AddressIs x.v p f c
    address_fact = address_at x c p f l cv st (requested_controls f) (agrees name.mem_addr) (q 18 (omega arith) (omega arith))

    pub memory_facts : set (f name.dmem_error) ≡ set (hidden c.m (fault_of x (in_m c))) → MemoryFacts x.v p f c
    unfolding fields_at
    memory_facts d = record { address = address_fact; stat = number_is name.m_stat _ (q 20 (omega arith) (omega arith)) ∙ ap (λ z. cond z 3 p.m.stat) (sym d) }

    written : is_good c.w ≡ true → (is_number cv name.w_dstE p.w.dst_e ≡ true) × (is_number cv name.w_dstM p.w.dst_m ≡ true)
        × (picks_leaf cv name.w_valE (Name name.W_valE) ≡ true) × (picks_leaf cv name.w_valM (Name name.W_valM) ≡ true)
    unfolding fields_at run_flow
    written g =
        and_four (is_number cv name.w_dstE p.w.dst_e) (is_number cv name.w_dstM p.w.dst_m) (picks_leaf cv name.w_valE (Name name.W_valE)) (picks_leaf cv name.w_valM (Name name.W_valM))
        (implied (is_good c.w) _ (q 21 (omega arith) (omega arith)) g)

    pub write_facts : WriteFacts p f c
    write_facts = record {
      dst_e = λ g. number_is name.w_dstE _ (written g).0;
      dst_m = λ g. number_is name.w_dstM _ (written g).1;
      val_e = λ g. pick_is name.w_valE (Name name.W_valE) (written g).2 ∙ st.W_valE;
      val_m = λ g. pick_is name.w_valM (Name name.W_valM) (written g).3 ∙ st.W_valM;
    }

    -- ---- the codes that a fetch brings
    code-true : (a : Leaf) (k : ℕ) → leaf_eq a (Number k) ≡ true → code_of a ≡ leaf_value f a
    code-true (Name a) k h = cc
    code-true (Number a) k h = refl

    code_at : (n k : ℕ) → picks_leaf cv n (Number k) ≡ true → code_of (cv n) ≡ f n
    code_at n k h = code-true (cv n) k h ∙ agrees n

    pub stat_code : code_of (cv name.f_stat) ≡ f name.f_stat
    unfolding fields_at
    stat_code = code_at name.f_stat _ a2

    pub icode_code : code_of (cv name.f_icode) ≡ f name.f_icode
    unfolding fields_at
    icode_code = code_at name.f_icode l.icode (and_first (is_number cv name.f_icode l.icode) (is_number cv name.f_ifun l.ifun) a1)

    pub ifun_code : code_of (cv name.f_ifun) ≡ f name.f_ifun
    unfolding fields_at
    ifun_code = code_at name.f_ifun l.ifun (and_second (is_number cv name.f_icode l.icode) (is_number cv name.f_ifun l.ifun) a1)

    pub fetched_codes : fetched_at x.v x.s (fields_at x c p f l) (run_flow x c) (requested_controls f) (real_assignment f) cv
        ≡ stage_flow_by 1 (stops_by (f name.f_stat) l.stops) (is_ret x.v (f name.f_icode)) (is_missed x.v x.s (f name.f_stat) (f name.f_icode) (f name.f_ifun) l.taken l.back)
    unfolding fields_at
    fetched_codes = rw (stat_code, icode_code, ifun_code) refl
