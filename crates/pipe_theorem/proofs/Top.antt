-- From "the obligations hold" to the refinement.
use Rattle.std.proofs.Common.{◌≡◌, ℕ, ◌<◌, ◌≤◌, inl, inr, Bool, true, false, not, ◌&&◌, ◌||◌, ◌==◌, List, refl, sym, ap, ◌∙◌, subst, arith}
use Rattle.std.proofs.lemmas.Bool.{cases_Bool, false≢true, and_from, not-false}
use Rattle.y86_isa.specs.Blocks.{condition, fetched}
use Rattle.y86_isa.specs.Run.{IsImage}
use Rattle.yis_pure_runs.specs.Near.{NearPure}
use Rattle.y86_isa.specs.declared.machine.Rec.{Rec}
use Rattle.yis_run_laws.specs.Instructions.{state_before, work_at, stops_at}
use Rattle.yis_run_laws.proofs.Statuses.{one_is}
use Rattle.yis_run_laws.proofs.Walk.{follows}
use Rattle.hcl_types.specs.Tables.{IsBound, IsOrderOf}
use Rattle.hcl_types.specs.declared.term.Term.{Term}
use Rattle.dp_signals.specs.PipeEquations.{Solves}
use Rattle.dp_signals.specs.PipeNames as name
use Rattle.dp_signals.specs.PipeRows.{PipeHardware, PipeHolds}
use Rattle.dp_signals.specs.PipeTable.{pipe_rows}
use Rattle.y86_base.specs.Words.{set}
use Rattle.y86_base.proofs.Booleans.{implied}
use Rattle.dp_signals.specs.declared.pipe_state.PipeState.{PipeState}
use Rattle.dp_signals.proofs.PipeRows.{pipe_hardware_rows, pipe_holds}
use Rattle.dp_signals.proofs.Bits.{set_bit}
use Rattle.ctl_atoms.specs.Leaves.{Assignment}
use Rattle.ctl_atoms.specs.declared.leaf.Atom.{Atom}
use Rattle.ctl_atoms.specs.declared.leaf.Leaf.{Leaf}
use Rattle.ctl_equations.specs.Laws.{HasControls, real_assignment, leaf_value}
use Rattle.ctl_equations.proofs.Solved.{controls_exist}
use Rattle.pipe_motion.specs.Flow.{flow_legal}
use Rattle.pipe_fields.specs.Allowed.{allowed}
use Rattle.pipe_fields.specs.Layout.{Fields, InRange, number_of}
use Rattle.pipe_obligations.specs.Obligations.{target_in_alu, fetch_good, fetched as fetched_at, register_controls_of}
use Rattle.pipe_obligations.specs.Rules.{demand, demand_at, is_always_demanded, is_demanded, rule_count}
use Rattle.pipe_obligations.specs.FileSettings.{Holds, PipeControls, alu_passes_target}
use Rattle.pipe_obligations.specs.StageFlows.{back_matches_all, is_stopping, legal, no_load_use_in_e, flow_of as flow_was}
use Rattle.pipe_refinement.specs.Facts.{AccessFacts, AddressIs, AlwaysFacts, CycleFacts, FetchFacts, MemoryFacts}
use Rattle.pipe_refinement.specs.Invariant.{RunContext, CouplingInvariant, run_stage_flow, run_flow}
use Rattle.pipe_refinement.specs.Kinds.{Schedule, Bubbled, Good, StageKind, Wrong, requested_controls, in_e, in_f, in_m, in_w, is_good}
use Rattle.pipe_refinement.specs.Refines.{Refines}
use Rattle.pipe_refinement.specs.Theorems.{HasFacts}
use Rattle.pipe_refinement.proofs.Fetch.{LoadsFetched, fetch_same, loads_fetched}
use Rattle.pipe_refinement.proofs.Older.{w_alone}
use Rattle.pipe_refinement.proofs.Refine.{refines}
use Rattle.pipe_refinement.proofs.Values.{m_valM_is}
use Rattle.pipe_theorem.proofs.Agreeing.{all_agree}
use Rattle.pipe_theorem.proofs.Circle.{back_told, error_is, f_ties, stage_flow_loaded}
use Rattle.pipe_theorem.proofs.Fits.{all_fit}
use Rattle.pipe_theorem.proofs.Motion.{good_fetch, motion_facts}
use Rattle.pipe_theorem.proofs.Ranges.{in_range}
use Rattle.pipe_theorem.proofs.Real.{flow_is, waits_is}
use Rattle.pipe_theorem.proofs.RealCycle.{f_line, fault_of, fields_at, hidden, kind_number}
use Rattle.pipe_theorem.proofs.Reflect.{AllAsked, Asks, access_at, address_at, address_fact, always, decode_facts, execute_facts, fetch_facts, fetched_codes, memory_facts, controls_are, write_facts}

stopping_by : (k : StageKind) (stat : ℕ) → (is_good k ≡ true → (stat == 1) ≡ true) → (kind_number k == 1) && not (stat == 1) ≡ false
stopping_by Bubbled stat h = refl
stopping_by Wrong stat h = refl
stopping_by Good stat h = rw (h refl) refl

abbrev pub the_fields : RunContext → Schedule → PipeState → (ℕ → ℕ) → Fields
the_fields x c p f = fields_at x c p f (f_line x c f)

module _ (x : RunContext) (terms : List Term) (ids : List ℕ) (atoms : List Atom) (bound : IsBound pipe_rows terms) (order : IsOrderOf pipe_rows terms ids)
    (holds : Holds x.v atoms (PipeControls terms) x.s) (n : ℕ) (image : IsImage x.image) (pure : NearPure x.v x.image n) where
  module _ (t : ℕ) (c : Schedule) (p : PipeState) (rs : List Rec) (f : ℕ → ℕ) (lt : t < n) (i : CouplingInvariant x t c p rs) (s : Solves x.v terms p f) where
    st : PipeHolds p f
    st = pipe_holds x.v terms p f s

    b : PipeHardware x.v p f
    b = pipe_hardware_rows x.v terms p f s

    cnd_e : is_good c.e ≡ true → set (f name.e_Cnd) ≡ (work_at x.v x.image (in_e c)).cnd
    cnd_e g = ap set b.e_Cnd ∙ set_bit _ ∙ rw (ap (λ k. condition k p.flags) (i.good_e g).ifun, i.flags) refl ∙ sym (follows x.v x.image (in_e c)).cnd

    view : flow_was x.v x.s (the_fields x c p f) ≡ run_flow x c
    view = flow_is x t c p f rs (f_line x c f) i cnd_e

    is_lawful : flow_legal x.s.je x.s.rm (flow_was x.v x.s (the_fields x c p f)) ≡ true
    is_lawful = ap (flow_legal x.s.je x.s.rm) view ∙ i.legal

    waits : no_load_use_in_e x.v x.s.lf (the_fields x c p f) (flow_was x.v x.s (the_fields x c p f)) ≡ true
    waits = ap (no_load_use_in_e x.v x.s.lf (the_fields x c p f)) view ∙ waits_is x t c p f rs (f_line x c f) i cnd_e

    told : back_matches_all x.v x.s.tv atoms (the_fields x c p f) (flow_was x.v x.s (the_fields x c p f)) (real_assignment f) ≡ true
    told = ap (λ y. back_matches_all x.v x.s.tv atoms (the_fields x c p f) y (real_assignment f)) view ∙ back_told x atoms t c p f rs i st

    is_legal : legal x.v x.s atoms (the_fields x c p f) (real_assignment f) ≡ true
    unfolding legal
    is_legal =
        and_from (flow_legal x.s.je x.s.rm (flow_was x.v x.s (the_fields x c p f)))
        (no_load_use_in_e x.v x.s.lf (the_fields x c p f) (flow_was x.v x.s (the_fields x c p f)) && back_matches_all x.v x.s.tv atoms (the_fields x c p f) (flow_was x.v x.s (the_fields x c p f)) (real_assignment f))
        is_lawful
        (and_from (no_load_use_in_e x.v x.s.lf (the_fields x c p f) (flow_was x.v x.s (the_fields x c p f)))
        (back_matches_all x.v x.s.tv atoms (the_fields x c p f) (flow_was x.v x.s (the_fields x c p f)) (real_assignment f)) waits told)

    has : HasControls pipe_rows terms (number_of (the_fields x c p f)) (real_assignment f)
    has = controls_exist pipe_rows terms ids (number_of (the_fields x c p f)) (real_assignment f) order

    cv : ℕ → Leaf
    cv = has.0

    controls : PipeControls terms (the_fields x c p f) (real_assignment f) cv
    unfolding cv
    controls = has.1

    ranges : InRange (the_fields x c p f)
    ranges = in_range x t c p f rs image i b

    -- what is demanded: always, or if the cycle isn't stopping
    asked_if : (j : ℕ) → 1 ≤ j → j ≤ rule_count → (is_always_demanded j || not (is_stopping (the_fields x c p f))) ≡ true → demand_at x.v x.s j (the_fields x c p f) (real_assignment f) cv ≡ true
    unfolding is_demanded
    asked_if j ge le h =
        implied (is_demanded x.v x.s atoms j (the_fields x c p f) (real_assignment f)) (demand_at x.v x.s j (the_fields x c p f) (real_assignment f) cv)
        (holds.obligations j ge le (the_fields x c p f) (real_assignment f) cv ranges controls)
        (and_from (allowed x.v (the_fields x c p f)) (legal x.v x.s atoms (the_fields x c p f) (real_assignment f) && (is_always_demanded j || not (is_stopping (the_fields x c p f))))
        (all_fit x t c p f rs image i b)
        (and_from (legal x.v x.s atoms (the_fields x c p f) (real_assignment f)) (is_always_demanded j || not (is_stopping (the_fields x c p f))) is_legal h))

    demanded : (j : ℕ) → 1 ≤ j → j ≤ rule_count → (is_always_demanded j || not (is_stopping (the_fields x c p f))) ≡ true → Asks x c p f (f_line x c f) (register_controls_of (real_assignment f) cv) cv j
    unfolding demand_at
    demanded j ge le h =
        sym (ap (λ y. demand j x.v x.s (the_fields x c p f) y (register_controls_of (real_assignment f) cv) (real_assignment f) cv) view) ∙ asked_if j ge le h

    on_always : (j : ℕ) → is_always_demanded j ≡ true → (is_always_demanded j || not (is_stopping (the_fields x c p f))) ≡ true
    on_always j h = rw h refl

    not_stopping : (is_good c.w ≡ true → stops_at x.v x.image (in_w c) ≡ false) → is_stopping (the_fields x c p f) ≡ false
    unfolding fields_at
    not_stopping on =
        stopping_by c.w p.w.stat (λ g. ap (λ z. z == 1) (i.good_w g).stat ∙ one_is x.v x.image (in_w c) ∙ not-false _ (on g))

    or_going : (a z : Bool) → z ≡ false → a || not z ≡ true
    or_going true false h = refl
    or_going false false h = refl
    or_going a true h = cc

    going_with : (is_good c.w ≡ true → stops_at x.v x.image (in_w c) ≡ false) → AllAsked x c p f (f_line x c f) (register_controls_of (real_assignment f) cv) cv
    going_with on j ge le = demanded j ge le (or_going (is_always_demanded j) (is_stopping (the_fields x c p f)) (not_stopping on))

    -- M's error bit: from the agreement of what it depends on
    ring : leaf_value f (cv name.mem_addr) ≡ f name.mem_addr → leaf_value f (cv name.mem_read) ≡ f name.mem_read → leaf_value f (cv name.mem_write) ≡ f name.mem_write →
        f name.dmem_error ≡ hidden c.m (fault_of x (in_m c))
    ring ad re wr = error_is x t c p f rs image i b access address
      where
        access : AccessFacts x.v p f c
        access = access_at x c p f (f_line x c f) cv st (register_controls_of (real_assignment f) cv) re wr (demanded 19 (omega arith) (omega arith) (on_always 19 refl))

        stopping : (z : Bool) → stops_at x.v x.image (in_w c) ≡ z → is_good c.w ≡ true → AddressIs x.v p f c
        stopping true z w = λ m. absurd (false≢true (sym ((w_alone x c i.legal w z).2) ∙ m))
        stopping false z w = address_at x c p f (f_line x c f) cv st (register_controls_of (real_assignment f) cv) ad (going_with (λ _. z) 18 (omega arith) (omega arith))

        address : AddressIs x.v p f c
        address = elim (cases_Bool (is_good c.w)) [
          | inl w ↦ stopping (stops_at x.v x.image (in_w c)) refl w
          | inr w ↦ address_at x c p f (f_line x c f) cv st (register_controls_of (real_assignment f) cv) ad (going_with (λ g. absurd (false≢true (sym w ∙ g))) 18 (omega arith) (omega arith))
        ]

    agrees : (m : ℕ) → leaf_value f (cv m) ≡ f m
    agrees = all_agree x terms c p f cv s ring ids bound order controls

    movers : register_controls_of (real_assignment f) cv ≡ requested_controls f
    movers = controls_are x c p f (f_line x c f) cv st agrees (f_ties x c f)

    as_moved : (j : ℕ) → Asks x c p f (f_line x c f) (register_controls_of (real_assignment f) cv) cv j → Asks x c p f (f_line x c f) (requested_controls f) cv j
    as_moved j h = subst (λ k. Asks x c p f (f_line x c f) k cv j) movers h

    always_is : AlwaysFacts x.v p f c
    always_is =
        always x c p f (f_line x c f) cv st agrees (f_ties x c f) (as_moved 15 (demanded 15 (omega arith) (omega arith) (on_always 15 refl)))
        (as_moved 19 (demanded 19 (omega arith) (omega arith) (on_always 19 refl))) (as_moved 22 (demanded 22 (omega arith) (omega arith) (on_always 22 refl)))

    -- the clause of the setting tv
    target_is : x.s.tv ≡ true → target_in_alu x.v x.s (the_fields x c p f) (run_flow x c) (requested_controls f) (real_assignment f) cv ≡ true
    unfolding alu_passes_target
    target_is tv =
        sym (ap (λ y. target_in_alu x.v x.s (the_fields x c p f) y (requested_controls f) (real_assignment f) cv) view)
        ∙ subst (λ k. target_in_alu x.v x.s (the_fields x c p f) (flow_was x.v x.s (the_fields x c p f)) k (real_assignment f) cv ≡ true) movers
        (implied (allowed x.v (the_fields x c p f)) _ (holds.target tv (the_fields x c p f) (real_assignment f) cv ranges controls) (all_fit x t c p f rs image i b))

    module _ (on : is_good c.w ≡ true → stops_at x.v x.image (in_w c) ≡ false) where
      q : AllAsked x c p f (f_line x c f) (requested_controls f) cv
      q j ge le = as_moved j (going_with on j ge le)

      abbrev fg : Bool
      fg = fetch_good x.v x.s (the_fields x c p f) (run_flow x c) (requested_controls f) (real_assignment f) cv

      ff : FetchFacts x.v x.s f
      ff = fetch_facts x c p f (f_line x c f) cv st agrees (f_ties x c f) q

      me : MemoryFacts x.v p f c
      me =
          memory_facts x c p f (f_line x c f) cv st agrees (f_ties x c f) q
          (ap set (error_is x t c p f rs image i b always_is.access (address_fact x c p f (f_line x c f) cv st agrees (f_ties x c f) q)))

      slot : fetch_good x.v x.s (the_fields x c p f) (run_flow x c) (requested_controls f) (real_assignment f) cv ≡ true → fetched_at x.v x.s (the_fields x c p f) (run_flow x c) (requested_controls f) (real_assignment f) cv ≡ run_stage_flow x Good (in_f c)
      slot z =
          let gf = good_fetch x t c p f rs (f_line x c f) cv i st agrees z in
          let same = fetch_same x n t c p f rs image pure lt i st b (λ m. m_valM_is x t c p f rs image i b always_is.access me.address m) ff gf in
          let l : LoadsFetched p f (fetched x.v (state_before x.v x.image (in_f c)).mem (state_before x.v x.image (in_f c)).pc) = subst (LoadsFetched p f) same (loads_fetched x p f b ff) in
          fetched_codes x c p f (f_line x c f) cv st agrees (f_ties x c f) q ∙ stage_flow_loaded x c p f l

      facts : CycleFacts x.v x.s p f c (run_flow x c) (fetch_good x.v x.s (the_fields x c p f) (run_flow x c) (requested_controls f) (real_assignment f) cv) (run_stage_flow x Good (in_f c))
      facts = record {
        fetch = ff;
        decode = decode_facts x c p f (f_line x c f) cv st agrees (f_ties x c f) q;
        execute = execute_facts x c p f (f_line x c f) cv st agrees (f_ties x c f) q target_is;
        memory = me;
        write = write_facts x c p f (f_line x c f) cv st agrees (f_ties x c f) q;
        motion = motion_facts x t c p f rs (f_line x c f) cv i st agrees q slot;
      }

    pub has_facts : HasFacts x c p f
    has_facts = record { always = always_is; cycle = λ on. (fetch_good x.v x.s (the_fields x c p f) (run_flow x c) (requested_controls f) (real_assignment f) cv, facts on) }

  pub accepted_refines : Refines x.v terms x.image n
  accepted_refines = refines x terms n image pure (λ t c p rs f lt i s. has_facts t c p rs f lt i s)
