-- If a good fetch goes on as predicted, the predicted PC after it is the next PC.
use Rattle.std.proofs.Common.{◌≡◌, ℕ, ◌+◌, ◌<◌, inl, inr, Bool, true, false, ◌&&◌, ◌==◌, cond, length, IfSome, refl, sym, ap, ◌∙◌}
use Rattle.std.proofs.lemmas.Bool.{false≢true, not-false}
use Rattle.y86_base.specs.declared.parts.Stat.TheVariants.{Adr, Aok, Hlt, Ins}
use Rattle.y86_base.specs.declared.parts.Stat.{Stat}
use Rattle.y86_isa.specs.Blocks.{fetched, next_address}
use Rattle.y86_isa.specs.Machine.{is_aok}
use Rattle.y86_isa.specs.RowTests.{next_is_branch, next_is_val_m}
use Rattle.y86_isa.specs.Table.{rows}
use Rattle.y86_isa.specs.declared.columns.NextPcColumn.TheVariants.{Branch, Fall, Itself, Loaded, Target}
use Rattle.y86_isa.specs.declared.columns.NextPcColumn.{NextPcColumn}
use Rattle.y86_isa.proofs.WhatIsRead.{IsReading-reading}
use Rattle.y86_isa.proofs.RowColumns.{next_at, is_itself}
use Rattle.yis_run_laws.specs.Instructions.{RunReaches, state_before, work_at, ret_at, instruction_row, stops_at}
use Rattle.yis_run_laws.proofs.Walk.{fetches, follows, pc_next}
use Rattle.dp_signals.specs.PipeNames as name
use Rattle.y86_base.specs.Words.{set}
use Rattle.y86_base.proofs.Booleans.{not_implied}
use Rattle.dp_signals.specs.declared.pipe_state.PipeState.{PipeState}
use Rattle.pipe_refinement.specs.Facts.{FetchFacts, predicted_pc}
use Rattle.pipe_refinement.specs.Invariant.{RunContext, differ, missed_at, predicted_at}
use Rattle.pipe_refinement.proofs.Fetch.{LoadsFetched, reads}

-- an instruction that ends with AOK has no error, is valid and is no halt
stat_parts : (fault error a b : Bool) → is_aok (cond fault Adr (cond error Adr (cond a Ins (cond b Hlt Aok)))) ≡ true → (error ≡ false) × (a ≡ false) × (b ≡ false)
stat_parts true error a b h = cc
stat_parts false true a b h = cc
stat_parts false false true b h = cc
stat_parts false false false true h = cc
stat_parts false false false false h = (refl, refl, refl)

sound : (x : RunContext) (i : ℕ) → is_aok (work_at x.v x.image i).stat ≡ true →
    ((fetched x.v (state_before x.v x.image i).mem (state_before x.v x.image i).pc).error ≡ false)
    × (((fetched x.v (state_before x.v x.image i).mem (state_before x.v x.image i).pc).icode == 15) ≡ false)
    × (((fetched x.v (state_before x.v x.image i).mem (state_before x.v x.image i).pc).icode == 0) ≡ false)
sound x i h =
    let g = fetched x.v (state_before x.v x.image i).mem (state_before x.v x.image i).pc in
    stat_parts (work_at x.v x.image i).fault g.error (g.icode == 15) (g.icode == 0) (rw (← (fetches x.v x.image i).fetch_stat, ← (follows x.v x.image i).stat) h)

known : (x : RunContext) (i : ℕ) → is_aok (work_at x.v x.image i).stat ≡ true → (work_at x.v x.image i).icode < length (rows x.v)
known x i h =
    let r = reads x.v (state_before x.v x.image i).mem (state_before x.v x.image i).pc in
    elim (IsReading-reading x.v (state_before x.v x.image i).mem (state_before x.v x.image i).pc).known [
      | inl lt ↦ rw ((fetches x.v x.image i).icode, r.icode) lt
      | inr e ↦ absurd (false≢true (sym (sound x i h).1 ∙ ap (λ z. z == 15) (r.icode ∙ e.0)))
    ]

error_of : (x : RunContext) (i : ℕ) → is_aok (work_at x.v x.image i).stat ≡ true →
    ((fetched x.v (state_before x.v x.image i).mem (state_before x.v x.image i).pc).error ≡ false) × (((work_at x.v x.image i).icode == 0) ≡ false)
error_of x i h = ((sound x i h).0, ap (λ z. z == 0) (fetches x.v x.image i).icode ∙ (sound x i h).2)

differ_same : (a b : Bool) → differ a b ≡ false → a ≡ b
differ_same true true h = refl
differ_same true false h = cc
differ_same false true h = cc
differ_same false false h = refl

-- by the column of the next PC
by_next : (n : NextPcColumn) (pc vp vc vm target : ℕ) (cnd taken : Bool) → is_itself n ≡ false → next_is_val_m n ≡ false → (next_is_branch n ≡ true → cnd ≡ taken) →
    IfSome (predicted_pc n vp vc taken) (λ z. target ≡ z) → target ≡ next_address n pc vp vc vm cnd
by_next Itself pc vp vc vm target cnd taken a l b h = cc
by_next Fall pc vp vc vm target cnd taken a l b h = h
by_next Branch pc vp vc vm target cnd taken a l b h = h ∙ ap (λ q. cond q vc vp) (sym (b refl))
by_next Target pc vp vc vm target cnd taken a l b h = h
by_next Loaded pc vp vc vm target cnd taken a l b h = cc

fetch_ok : (s : Stat) (e a b : Bool) → s ≡ cond e Adr (cond a Ins (cond b Hlt Aok)) → (fault : Bool) → is_aok (cond fault Adr s) ≡ true → is_aok s ≡ true
fetch_ok s e a b q true h = cc
fetch_ok s e a b q false h = h

pub predicted_is : (x : RunContext) (i : ℕ) (p : PipeState) (f : ℕ → ℕ) → RunReaches x.v x.image i → FetchFacts x.v x.s f → LoadsFetched p f (fetched x.v (state_before x.v x.image i).mem (state_before x.v x.image i).pc) →
    stops_at x.v x.image i ≡ false → ret_at x.v x.image i ≡ false → missed_at x i ≡ false → f name.f_predPC ≡ (state_before x.v x.image (i + 1)).pc
predicted_is x i p f live q l on no_ret hit =
    let w = fetches x.v x.image i in
    let ok : is_aok (work_at x.v x.image i).stat ≡ true = not-false _ on in
    let e = error_of x i ok in
    let no_error : set (f name.imem_error) ≡ false = l.error ∙ e.0 in
    let icode : f name.imem_icode ≡ (work_at x.v x.image i).icode = l.read_icode ∙ sym w.icode in
    let ifun : f name.imem_ifun ≡ (work_at x.v x.image i).ifun = l.read_ifun ∙ sym w.ifun in
    let vc : f name.f_valC ≡ (work_at x.v x.image i).val_c = l.val_c ∙ sym w.val_c in
    let vp : f name.f_valP ≡ (work_at x.v x.image i).val_p = l.val_p ∙ sym w.val_p in
    let fetch_aok : is_aok (work_at x.v x.image i).fetch_stat ≡ true = fetch_ok _ _ _ _ w.fetch_stat (work_at x.v x.image i).fault (rw (← (follows x.v x.image i).stat) ok) in
    let pred : IfSome (predicted_pc (instruction_row x.v x.image i).next (work_at x.v x.image i).val_p (work_at x.v x.image i).val_c (predicted_at x i)) (λ z. f name.f_predPC ≡ z) =
    rw (icode, ifun, vc, vp) at (q.prediction no_error) in
    by_next (instruction_row x.v x.image i).next (state_before x.v x.image i).pc _ _ (work_at x.v x.image i).val_m _ (work_at x.v x.image i).cnd _
    (not_implied _ _ (next_at x.v (work_at x.v x.image i).icode (known x i ok)) e.1) no_ret
    (λ b. differ_same _ _ (last (is_aok (work_at x.v x.image i).fetch_stat) (next_is_branch (instruction_row x.v x.image i).next) _ fetch_aok b hit)) pred
    ∙ sym (follows x.v x.image i).next_pc ∙ sym (pc_next x.v x.image i live on)
  where
    last : (a b d : Bool) → a ≡ true → b ≡ true → a && (b && d) ≡ false → d ≡ false
    last true true d e g h = h
    last true false d e g h = cc
    last false b d e g h = cc
