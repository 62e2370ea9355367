-- What a good fetch brings, the back bits of jumps, and M's error bit, in a real cycle.
use Rattle.std.proofs.Common.{◌≡◌, ℕ, Bool, true, false, not, ◌&&◌, ◌||◌, ◌==◌, List, refl, sym, ap, ◌∙◌}
use Rattle.std.proofs.lemmas.Bool.{and_parts, and_from, or_right, and_left}
use Rattle.y86_base.specs.Stat.{stat_number}
use Rattle.y86_isa.specs.Blocks.{condition, data_error, fetched}
use Rattle.y86_isa.specs.RowTests.{accesses, select_a_is_val_p, next_is_branch, next_is_val_m}
use Rattle.y86_isa.specs.Run.{IsImage}
use Rattle.y86_isa.specs.Table.{row}
use Rattle.y86_isa.specs.declared.machine.Rec.{Rec}
use Rattle.yis_run_laws.specs.Instructions.{state_before, work_at, ret_at, instruction_row, stops_at}
use Rattle.yis_run_laws.proofs.Statuses.{stops_is}
use Rattle.yis_run_laws.proofs.Walk.{access-from_fault_at, fetches, follows}
use Rattle.nets.specs.Nets.{agree}
use Rattle.hcl_types.specs.Terms.{signed_below}
use Rattle.dp_signals.specs.PipeNames as name
use Rattle.dp_signals.specs.PipeRows.{PipeHardware, PipeHolds}
use Rattle.y86_base.specs.Words.{set}
use Rattle.dp_signals.specs.Values.{bit}
use Rattle.dp_signals.specs.declared.pipe_state.PipeState.{PipeState}
use Rattle.dp_signals.proofs.Bits.{set_bit}
use Rattle.ctl_atoms.specs.Leaves.{has_atom}
use Rattle.ctl_atoms.specs.declared.leaf.Atom.{Atom}
use Rattle.ctl_equations.specs.Laws.{real_assignment}
use Rattle.pipe_fields.specs.Layout.{FetchLine}
use Rattle.pipe_obligations.specs.StageFlows.{back_matches_all, back_matches_in_f, below, is_jump, is_ret, is_missed, stage_flow_by, stops_by, back_matches}
use Rattle.pipe_refinement.specs.Facts.{AccessFacts, AddressIs}
use Rattle.pipe_refinement.specs.Invariant.{RunContext, CouplingInvariant, missed_at, run_stage_flow, run_flow}
use Rattle.pipe_refinement.specs.Kinds.{Schedule, Good, StageKind, in_d, in_e, in_f, in_m, is_good}
use Rattle.pipe_refinement.proofs.Empties.{no_error}
use Rattle.pipe_refinement.proofs.Fetch.{LoadsFetched}
use Rattle.pipe_refinement.proofs.Values.{fault_is}
use Rattle.pipe_refinement.proofs.Views.{and_on}
use Rattle.pipe_theorem.proofs.Real.{hidden_good, missed_is}
use Rattle.pipe_theorem.proofs.RealCycle.{back_of, f_line, fault_of, fields_at, hidden}

fault_needs : (a f : Bool) → (f ≡ true → a ≡ true) → a && f ≡ f
fault_needs true f h = refl
fault_needs false true h = h refl
fault_needs false false h = refl

-- how the line F and the cycle are related
pub record FTies (x : RunContext) (f : ℕ → ℕ) (l : FetchLine) : Type 0 where
  pub icode : l.icode ≡ f name.imem_icode
  pub ifun : l.ifun ≡ f name.imem_ifun
  pub error : l.error ≡ f name.imem_error
  pub back : next_is_branch (row x.v (f name.imem_icode)).next ≡ true → set l.back ≡ signed_below (f name.f_valC) (f name.f_valP)

pub f_ties : (x : RunContext) (c : Schedule) (f : ℕ → ℕ) → FTies x f (f_line x c f)
unfolding f_line
f_ties x c f = record { icode = refl; ifun = refl; error = refl; back = λ br. set_bit _ ∙ and_on _ _ br }

one_stage_flow : (s s' r r' m m' : Bool) → s ≡ s' → r ≡ r' → m ≡ m' → stage_flow_by 1 s r m ≡ stage_flow_by 1 s' r' m'
one_stage_flow s s' r r' m m' p q o = rw (p, q, o) refl

-- a good fetch brings the next instruction
pub stage_flow_loaded : (x : RunContext) (c : Schedule) (p : PipeState) (f : ℕ → ℕ) →
    LoadsFetched p f (fetched x.v (state_before x.v x.image (in_f c)).mem (state_before x.v x.image (in_f c)).pc) →
    stage_flow_by 1 (stops_by (f name.f_stat) (f_line x c f).stops) (is_ret x.v (f name.f_icode))
    (is_missed x.v x.s (f name.f_stat) (f name.f_icode) (f name.f_ifun) (f_line x c f).taken (f_line x c f).back)
    ≡ run_stage_flow x Good (in_f c)
unfolding f_line
stage_flow_loaded x c p f l =
    let i = in_f c in
    let w = fetches x.v x.image i in
    let read : f name.imem_icode ≡ (work_at x.v x.image i).icode = l.read_icode ∙ sym w.icode in
    let icode : f name.f_icode ≡ (work_at x.v x.image i).icode = l.icode ∙ sym w.icode in
    let read_ifun : f name.imem_ifun ≡ (work_at x.v x.image i).ifun = l.read_ifun ∙ sym w.ifun in
    let ifun : f name.f_ifun ≡ (work_at x.v x.image i).ifun = l.ifun ∙ sym w.ifun in
    let stat : f name.f_stat ≡ stat_number (work_at x.v x.image i).fetch_stat = l.stat ∙ sym (ap stat_number w.fetch_stat) in
    let vc : f name.f_valC ≡ (work_at x.v x.image i).val_c = l.val_c ∙ sym w.val_c in
    let vp : f name.f_valP ≡ (work_at x.v x.image i).val_p = l.val_p ∙ sym w.val_p in
    let stops : stops_by (f name.f_stat) (bit (accesses (row x.v (f name.imem_icode)).memory && (work_at x.v x.image i).fault)) ≡ stops_at x.v x.image i =
    rw (set_bit (accesses (row x.v (f name.imem_icode)).memory && (work_at x.v x.image i).fault), stat, read, fault_needs (accesses (instruction_row x.v x.image i).memory) (work_at x.v x.image i).fault (access-from_fault_at x.v x.image i)) (stops_is x.v x.image i) in
    let ret : is_ret x.v (f name.f_icode) ≡ ret_at x.v x.image i = ap (λ z. next_is_val_m (row x.v z).next) icode in
    let missed : is_missed x.v x.s (f name.f_stat) (f name.f_icode) (f name.f_ifun)
    (bit (next_is_branch (row x.v (f name.imem_icode)).next && condition (f name.imem_ifun) (state_before x.v x.image i).flags))
    (bit (next_is_branch (row x.v (f name.imem_icode)).next && signed_below (f name.f_valC) (f name.f_valP))) ≡ missed_at x i =
    missed_is x i _ _ _ _ _ stat icode ifun
    (λ br. set_bit _ ∙ and_on _ _ (ap (λ z. next_is_branch (row x.v z).next) read ∙ br) ∙ ap (λ z. condition z (state_before x.v x.image i).flags) read_ifun ∙ sym (follows x.v x.image i).cnd)
    (λ br. set_bit _ ∙ and_on _ _ (ap (λ z. next_is_branch (row x.v z).next) read ∙ br) ∙ rw (vc, vp) refl) in
    one_stage_flow _ _ _ _ _ _ stops ret missed

-- M's error bit is the real one
pub error_is : (x : RunContext) (t : ℕ) (c : Schedule) (p : PipeState) (f : ℕ → ℕ) (rs : List Rec) (image : IsImage x.image) (i : CouplingInvariant x t c p rs)
    (b : PipeHardware x.v p f) (a : AccessFacts x.v p f c) (me : AddressIs x.v p f c) → f name.dmem_error ≡ hidden c.m (fault_of x (in_m c))
error_is x t c p f rs image i b a me = by (is_good c.m) refl
  where
    by : (g : Bool) → is_good c.m ≡ g → f name.dmem_error ≡ hidden c.m (fault_of x (in_m c))
    by true m =
        let e : data_error p.mem (f name.mem_addr) (set (f name.mem_read)) (set (f name.mem_write)) ≡ (work_at x.v x.image (in_m c)).fault =
        sym (set_bit _) ∙ sym (ap set b.dmem_error) ∙ fault_is x t c p f rs image i b a me m in
        b.dmem_error ∙ ap bit (e ∙ sym (and_on _ _ m))
    by false m =
        let e : data_error p.mem (f name.mem_addr) (set (f name.mem_read)) (set (f name.mem_write)) ≡ false =
        no_error p.mem (f name.mem_addr) _ _ (a.reads ∙ and_left _ _ m) (a.writes ∙ and_left _ _ m) in
        b.dmem_error ∙ ap bit (e ∙ sym (and_left _ _ m))

-- ---- the comparison of a jump's valC and valP is its back bit
same_is : (a b : Bool) → a ≡ b → agree a b ≡ true
same_is true b e = sym e
same_is false b e = ap not (sym e)

guard : (a b : Bool) → (a ≡ true → b ≡ true) → not a || b ≡ true
guard true b h = h refl
guard false b h = refl

module _ (x : RunContext) (atoms : List Atom) (t : ℕ) (c : Schedule) (p : PipeState) (f : ℕ → ℕ) (rs : List Rec) (i : CouplingInvariant x t c p rs) (st : PipeHolds p f) where
  branch_at : (j icode : ℕ) → icode ≡ (work_at x.v x.image j).icode → next_is_branch (row x.v icode).next ≡ true → next_is_branch (instruction_row x.v x.image j).next ≡ true
  branch_at j icode e h = sym (ap (λ z. next_is_branch (row x.v z).next) e) ∙ h

  back_is : (k : StageKind) (j : ℕ) (a b : ℕ) → is_good k ≡ true → next_is_branch (instruction_row x.v x.image j).next ≡ true → a ≡ (work_at x.v x.image j).val_c →
      b ≡ (work_at x.v x.image j).val_p → signed_below a b ≡ set (hidden k (back_of x j))
  back_is k j a b g br ea eb = rw (ea, eb) refl ∙ sym (hidden_good k (back_of x j) g ∙ and_on _ _ br)

  in_d_is : is_good c.d ≡ true → next_is_branch (row x.v p.d.icode).next ≡ true → signed_below (f name.D_valC) (f name.D_valP) ≡ set (hidden c.d (back_of x (in_d c)))
  in_d_is g br = let h = i.good_d g in back_is c.d (in_d c) _ _ g (branch_at (in_d c) p.d.icode h.icode br) (st.D_valC ∙ h.val_c) (st.D_valP ∙ h.val_p)

  in_e_is : is_good c.e ≡ true → next_is_branch (row x.v p.e.icode).next ≡ true → signed_below (f name.E_valC) (f name.E_valA) ≡ set (hidden c.e (back_of x (in_e c)))
  in_e_is g br =
      let h = i.good_e g in
      let b = branch_at (in_e c) p.e.icode h.icode br in
      back_is c.e (in_e c) _ _ g b (st.E_valC ∙ h.val_c) (st.E_valA ∙ h.val_p (or_right _ _ b))

  in_m_is : x.s.tv ≡ true → is_good c.m ≡ true → next_is_branch (row x.v p.m.icode).next ≡ true → signed_below (f name.M_valE) (f name.M_valA) ≡ set (hidden c.m (back_of x (in_m c)))
  in_m_is tv g br =
      let h = i.good_m g in
      let b = branch_at (in_m c) p.m.icode h.icode br in
      let cp : select_a_is_val_p (instruction_row x.v x.image (in_m c)) ≡ true = or_right _ _ b in
      let va : p.m.val_a ≡ (work_at x.v x.image (in_m c)).val_p = h.val_a (or_right _ _ cp) ∙ rw cp refl in
      back_is c.m (in_m c) _ _ g b (st.M_valE ∙ h.target tv b) (st.M_valA ∙ va)

  tells : (a b : ℕ) (here : Bool) (back : ℕ) → (here ≡ true → signed_below (f a) (f b) ≡ set back) → back_matches atoms (real_assignment f) a b here back ≡ true
  tells a b here back h =
      guard (here && has_atom atoms (below a b)) (agree (signed_below (f a) (f b)) (set back)) (λ e. same_is _ _ (h (and_parts here (has_atom atoms (below a b)) e).0))

  stage_tells : (k : StageKind) (a b stat icode back : ℕ) → (is_good k ≡ true → next_is_branch (row x.v icode).next ≡ true → signed_below (f a) (f b) ≡ set back) →
      back_matches atoms (real_assignment f) a b (is_good k && is_jump x.v stat icode) back ≡ true
  stage_tells k a b stat icode back e =
      tells a b (is_good k && is_jump x.v stat icode) back
      (λ h.
      let h1 = and_parts (is_good k) (is_jump x.v stat icode) h in
      e h1.0 (and_parts (stat == 1) (next_is_branch (row x.v icode).next) h1.1).1)

  f_tells : back_matches_in_f x.v atoms (fields_at x c p f (f_line x c f)) (real_assignment f) ≡ true
  unfolding fields_at f_line
  f_tells =
      tells name.f_valC name.f_valP (not (set (f name.imem_error)) && next_is_branch (row x.v (f name.imem_icode)).next) _
      (λ h. sym (set_bit _ ∙ and_on (next_is_branch (row x.v (f name.imem_icode)).next) _ (and_parts (not (set (f name.imem_error))) (next_is_branch (row x.v (f name.imem_icode)).next) h).1))

  d_tells : back_matches atoms (real_assignment f) name.D_valC name.D_valP (is_good c.d && is_jump x.v p.d.stat p.d.icode) (hidden c.d (back_of x (in_d c))) ≡ true
  d_tells = stage_tells c.d name.D_valC name.D_valP p.d.stat p.d.icode _ in_d_is

  e_tells : back_matches atoms (real_assignment f) name.E_valC name.E_valA (is_good c.e && is_jump x.v p.e.stat p.e.icode) (hidden c.e (back_of x (in_e c))) ≡ true
  e_tells = stage_tells c.e name.E_valC name.E_valA p.e.stat p.e.icode _ in_e_is

  m_tells : x.s.tv ≡ true → back_matches atoms (real_assignment f) name.M_valE name.M_valA (is_good c.m && is_jump x.v p.m.stat p.m.icode) (hidden c.m (back_of x (in_m c))) ≡ true
  m_tells tv = stage_tells c.m name.M_valE name.M_valA p.m.stat p.m.icode _ (in_m_is tv)

  pub back_told : back_matches_all x.v x.s.tv atoms (fields_at x c p f (f_line x c f)) (run_flow x c) (real_assignment f) ≡ true
  unfolding fields_at run_flow
  back_told =
      and_from (back_matches_in_f x.v atoms (fields_at x c p f (f_line x c f)) (real_assignment f)) _ f_tells
      (and_from (back_matches atoms (real_assignment f) name.D_valC name.D_valP (is_good c.d && is_jump x.v p.d.stat p.d.icode) (hidden c.d (back_of x (in_d c)))) _ d_tells
      (and_from (back_matches atoms (real_assignment f) name.E_valC name.E_valA (is_good c.e && is_jump x.v p.e.stat p.e.icode) (hidden c.e (back_of x (in_e c)))) _ e_tells
      (guard x.s.tv _ m_tells)))
