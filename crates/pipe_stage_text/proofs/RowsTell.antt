-- What the rows of a diagram say, by induction on the number of cycles.
use Rattle.std.proofs.Common.{◌≡◌, ℕ, zero, suc, ◌+◌, ◌≤◌, ◌<◌, Bool, true, false, not, ◌&&◌, ◌||◌, ◌==◌, cond, if◌then◌else◌, List, Option, refl, sym, ap, ◌∙◌, subst, arith}
use Rattle.std.proofs.lemmas.Bool.Decides.{nat_tests}
use Rattle.y86_base.specs.Stat.{stat_of}
use Rattle.y86_base.specs.declared.parts.Flags.{Flags}
use Rattle.y86_base.specs.declared.parts.Stat.TheVariants.{Bub, Aok, Hlt, Adr, Ins, Bad}
use Rattle.y86_base.specs.declared.parts.Variant.{Variant}
use Rattle.y86_isa.specs.Machine.{is_aok}
use Rattle.y86_isa.specs.declared.machine.Store.{Store}
use Rattle.hcl_types.specs.declared.term.Term.{Term}
use Rattle.dp_signals.specs.PipeCycle.{any_both, requested_updates, ending, loaded_d, loaded_e, loaded_m, loaded_w, moved, updates_by, updates_of, next, next_flags, store_of, with_flags, with_store}
use Rattle.dp_signals.specs.PipeNames as row
use Rattle.dp_signals.specs.PipeRun.{end_by}
use Rattle.dp_signals.specs.PipeState.{bubble_d, bubble_e, bubble_m, bubble_w, start_state}
use Rattle.dp_signals.specs.PipeTable.{pipe_rows}
use Rattle.dp_signals.specs.declared.register_updates.CycleEnd.{CycleEnd}
use Rattle.dp_signals.specs.declared.register_updates.CycleEnd.TheVariants.{Going, Stopped, Pip}
use Rattle.dp_signals.specs.declared.register_updates.RegisterUpdate.{RegisterUpdate}
use Rattle.dp_signals.specs.declared.register_updates.RegisterUpdate.TheVariants.{Stay, Bubble, Load}
use Rattle.dp_signals.specs.declared.register_updates.RegisterUpdates.{RegisterUpdates}
use Rattle.dp_signals.specs.declared.pipe_state.PipeState.{PipeState}
use Rattle.dp_signals.specs.declared.pipe_state.StageD.{StageD}
use Rattle.dp_signals.specs.declared.pipe_state.StageE.{StageE}
use Rattle.dp_signals.specs.declared.pipe_state.StageM.{StageM}
use Rattle.dp_signals.specs.declared.pipe_state.StageW.{StageW}
use Rattle.dp_signals.specs.declared.pipe_state.Trail.{Trail}
use Rattle.pipe_stage_text.specs.Sources.{sources}
use Rattle.pipe_stage_text.specs.Rows.{EachFetchIsARow, EachRowTells, HoldsState, IsNumbered, LettersTell, Stands, fetch_of, is_held, is_made_again, loads, next_watch, stays}
use Rattle.pipe_stage_text.specs.StageContents.{bubble, bubbles, fetched, first_watch, kept_behind, moved_watch, rows_fetched, waits}
use Rattle.pipe_stage_text.specs.Observer.{Observes, Observer, after, goes_on, shown_of}
use Rattle.pipe_stage_text.specs.Diagram.{fetch_lost, letter, letter_of, lost, shown_cycle}
use Rattle.pipe_stage_text.specs.declared.stage_content.StageContent.{StageContent}
use Rattle.pipe_stage_text.specs.declared.stage_contents.StageContents.{StageContents}
use Rattle.pipe_stage_text.specs.declared.observer.CycleRange.{CycleRange}

-- ---- the numbers of rows

if_below : (b : Bool) (n m most : ℕ) → n ≤ most → m ≤ most → (if b then n else m) ≤ most
if_below true n m most h h' = h
if_below false n m most h h' = h'

no_fewer : (b : Bool) (n : ℕ) → n ≤ (if b then n else n + 1)
no_fewer true n = omega arith
no_fewer false n = omega arith

fetch_within : (b : Bool) (kept rows : ℕ) → kept ≤ rows → (if b then kept else rows + 1) ≤ (if b then rows else rows + 1)
fetch_within true kept rows h = h
fetch_within false kept rows h = omega arith

moved_row : (k : RegisterUpdate) (held loaded : StageContent) (n most : ℕ) → held.row ≤ most → n ≤ most → loaded.row ≤ most → (moved k held (bubble n) loaded).row ≤ most
moved_row Stay held loaded n most h b l = h
moved_row Bubble held loaded n most h b l = b
moved_row Load held loaded n most h b l = l

kept_row : (f d : RegisterUpdate) (fetch : StageContent) (most : ℕ) → fetch.row ≤ most → (kept_behind f d fetch).row ≤ most
kept_row Stay Stay fetch most h = h
kept_row Stay Bubble fetch most h = h
kept_row Stay Load fetch most h = omega arith
kept_row Bubble d fetch most h = omega arith
kept_row Load d fetch most h = omega arith

-- rows of bubbles, from W's to D's: each register may add a row to those before
up : (row before first now : ℕ) → row ≤ before → before ≤ first → first ≤ now → row ≤ now
up row before first now h h' h'' = omega arith

sum_two : (n a b : ℕ) → n + a ≤ n + a + b
sum_two n a b = omega arith

sum_from : (n a b c d : ℕ) → n ≤ n + a + b + c + d
sum_from n a b c d = omega arith

sum_1 : (n a b c d : ℕ) → n + a ≤ n + a + b + c + d
sum_1 n a b c d = omega arith

sum_2 : (n a b c d : ℕ) → n + a + b ≤ n + a + b + c + d
sum_2 n a b c d = omega arith

sum_3 : (n a b c d : ℕ) → n + a + b + c ≤ n + a + b + c + d
sum_3 n a b c d = omega arith

sum_4 : (n : ℕ) → n ≤ n
sum_4 n = omega arith

numbered_next : (watch : StageContents) (fetch : StageContent) (k : RegisterUpdates) → IsNumbered watch → watch.rows ≤ rows_fetched watch fetch.addr → fetch.row ≤ rows_fetched watch fetch.addr →
    IsNumbered (moved_watch watch fetch k)
unfolding moved_watch
numbered_next watch fetch k h some within =
    let n = rows_fetched watch fetch.addr in
    let a = bubbles k.w in
    let b = bubbles k.m in
    let c = bubbles k.e in
    let d = bubbles k.d in
    let before = sum_from n a b c d in
    record {
      kept = kept_row k.f k.d fetch _ (up _ n n _ within (sum_4 n) before);
      d = moved_row k.d watch.d fetch _ _ (up _ _ n _ h.d some before) (sum_4 _) (up _ n n _ within (sum_4 n) before);
      e = moved_row k.e watch.e watch.d _ _ (up _ _ n _ h.e some before) (sum_3 n a b c d) (up _ _ n _ h.d some before);
      m = moved_row k.m watch.m watch.e _ _ (up _ _ n _ h.m some before) (sum_2 n a b c d) (up _ _ n _ h.e some before);
      w = moved_row k.w watch.w watch.m _ _ (up _ _ n _ h.w some before) (sum_1 n a b c d) (up _ _ n _ h.m some before);
    }

fetch_numbered : (s : Observer) (f : ℕ → ℕ) → IsNumbered s.watch → (fetch_of s f).row ≤ rows_fetched s.watch (f row.f_pc)
fetch_numbered s f h = fetch_within (waits s.watch (f row.f_pc)) s.watch.kept.row s.watch.rows h.kept

some_rows : (s : Observer) (f : ℕ → ℕ) → s.watch.rows ≤ rows_fetched s.watch (f row.f_pc)
some_rows s f = no_fewer (waits s.watch (f row.f_pc)) s.watch.rows

numbered_after : (s : Observer) (f : ℕ → ℕ) → IsNumbered s.watch → IsNumbered (next_watch s f)
numbered_after s f h = numbered_next s.watch (fetch_of s f) (requested_updates f) h (some_rows s f) (fetch_numbered s f h)

-- ---- what the registers hold

not_aok : (a c d e : Bool) → is_aok (if a then Bub else (if false then Aok else (if c then Hlt else (if d then Adr else (if e then Ins else Bad))))) ≡ false
not_aok true c d e = refl
not_aok false true d e = refl
not_aok false false true e = refl
not_aok false false false true = refl
not_aok false false false false = refl

stops : (n : ℕ) → (n == 1) ≡ false → is_aok (stat_of n) ≡ false
stops n e = rw e (not_aok (n == 0) (n == 2) (n == 3) (n == 4))

going_by : (b both : Bool) (n : ℕ) → (n == 1) ≡ b → is_aok (end_by (if not b then Stopped else (if both then Pip else Going)) (stat_of n)) ≡ true →
    (if not b then Stopped else (if both then Pip else Going)) ≡ Going
going_by true false n e h = refl
going_by true true n e h = absurd (cc)
going_by false both n e h = absurd (grind (arith, stops n e, h))

going : (f : ℕ → ℕ) → is_aok (end_by (ending f) (stat_of (f row.Stat))) ≡ true → ending f ≡ Going
going f h = going_by (f row.Stat == 1) (any_both f) (f row.Stat) refl h

-- a register and its row; the ifun moves with the instruction too
record InD (h : StageContent) (s : StageD) : Type 0 where
  live : h.live ≡ s.live
  addr : h.addr ≡ s.trail.addr
  icode : h.icode ≡ s.icode
  ifun : h.ifun ≡ s.ifun
  rides : s.ifun ≡ s.trail.ifun

record InE (h : StageContent) (s : StageE) : Type 0 where
  live : h.live ≡ s.live
  addr : h.addr ≡ s.trail.addr
  icode : h.icode ≡ s.icode
  ifun : h.ifun ≡ s.ifun
  rides : s.ifun ≡ s.trail.ifun

record InM (h : StageContent) (s : StageM) : Type 0 where
  live : h.live ≡ s.live
  addr : h.addr ≡ s.trail.addr
  icode : h.icode ≡ s.icode
  ifun : h.ifun ≡ s.ifun
  rides : s.ifun ≡ s.trail.ifun

record InW (h : StageContent) (s : StageW) : Type 0 where
  live : h.live ≡ s.live
  addr : h.addr ≡ s.trail.addr
  icode : h.icode ≡ s.icode
  ifun : h.ifun ≡ s.trail.ifun

record InAll (watch : StageContents) (p : PipeState) : Type 0 where
  d : InD watch.d p.d
  e : InE watch.e p.e
  m : InM watch.m p.m
  w : InW watch.w p.w

flags_ride : (live : Bool) (trail : Trail) (flags : Flags) → ((with_flags live trail flags).addr ≡ trail.addr) × ((with_flags live trail flags).ifun ≡ trail.ifun)
flags_ride true trail flags = (refl, refl)
flags_ride false trail flags = (refl, refl)

store_rides : (live : Bool) (trail : Trail) (store : Option Store) → ((with_store live trail store).addr ≡ trail.addr) × ((with_store live trail store).ifun ≡ trail.ifun)
store_rides true trail store = (refl, refl)
store_rides false trail store = (refl, refl)

module _ (s : Observer) (f : ℕ → ℕ) (h : InAll s.watch s.state) where
  in_d : (k : RegisterUpdate) (n : ℕ) → InD (moved k s.watch.d (bubble n) (fetch_of s f)) (moved k s.state.d bubble_d (loaded_d s.state f))
  in_d Stay n = h.d
  in_d Bubble n = record { live = refl; addr = refl; icode = refl; ifun = refl; rides = refl }
  in_d Load n = record { live = refl; addr = refl; icode = refl; ifun = refl; rides = refl }

  in_e : (k : RegisterUpdate) (n : ℕ) → InE (moved k s.watch.e (bubble n) s.watch.d) (moved k s.state.e bubble_e (loaded_e s.state f))
  in_e Stay n = h.e
  in_e Bubble n = record { live = refl; addr = refl; icode = refl; ifun = refl; rides = refl }
  in_e Load n = record { live = h.d.live; addr = h.d.addr; icode = h.d.icode; ifun = h.d.ifun; rides = h.d.rides }

  in_m : (k : RegisterUpdate) (n : ℕ) → InM (moved k s.watch.m (bubble n) s.watch.e) (moved k s.state.m bubble_m (loaded_m s.state f))
  in_m Stay n = h.m
  in_m Bubble n = record { live = refl; addr = refl; icode = refl; ifun = refl; rides = refl }
  in_m Load n =
      let ride = flags_ride s.state.e.live s.state.e.trail (next_flags s.state f) in
      record { live = h.e.live; addr = h.e.addr ∙ sym ride.0; icode = h.e.icode; ifun = h.e.ifun; rides = h.e.rides ∙ sym ride.1 }

  in_w : (k : RegisterUpdate) (n : ℕ) → InW (moved k s.watch.w (bubble n) s.watch.m) (moved k s.state.w bubble_w (loaded_w s.state f))
  in_w Stay n = h.w
  in_w Bubble n = record { live = refl; addr = refl; icode = refl; ifun = refl }
  in_w Load n =
      let ride = store_rides s.state.m.live s.state.m.trail (store_of s.state f) in
      record { live = h.m.live; addr = h.m.addr ∙ sym ride.0; icode = h.m.icode; ifun = h.m.ifun ∙ h.m.rides ∙ sym ride.1 }

  -- a cycle after which the machine goes on
  abbrev by : CycleEnd → PipeState
  by e =
      let k = updates_by e (requested_updates f) in
      record (next s.state f) {
        d = moved k.d s.state.d bubble_d (loaded_d s.state f);
        e = moved k.e s.state.e bubble_e (loaded_e s.state f);
        m = moved k.m s.state.m bubble_m (loaded_m s.state f);
        w = moved k.w s.state.w bubble_w (loaded_w s.state f);
      }

  next_is : next s.state f ≡ by (ending f)
  unfolding next updates_of
  next_is = refl

  in_all : InAll (next_watch s f) (by Going)
  unfolding moved_watch
  in_all = record { d = in_d (requested_updates f).d _; e = in_e (requested_updates f).e _; m = in_m (requested_updates f).m _; w = in_w (requested_updates f).w _ }

  in_all_next : ending f ≡ Going → InAll (next_watch s f) (next s.state f)
  in_all_next e = subst (λ p. InAll (next_watch s f) p) (sym (next_is ∙ ap by e)) in_all

holds_state : (watch : StageContents) (p : PipeState) → InAll watch p → HoldsState watch p
holds_state watch p h =
    record {
      d = record { live = h.d.live; addr = h.d.addr; icode = h.d.icode; ifun = h.d.ifun };
      e = record { live = h.e.live; addr = h.e.addr; icode = h.e.icode; ifun = h.e.ifun };
      m = record { live = h.m.live; addr = h.m.addr; icode = h.m.icode; ifun = h.m.ifun };
      w = record { live = h.w.live; addr = h.w.addr; icode = h.w.icode; ifun = h.w.ifun };
    }

-- ---- letters

-- whether a register holds a row next; `held`: it holds the row now; `loaded`: the register it loads from holds the row
abbrev held_next : RegisterUpdate → Bool → Bool → Bool
held_next Stay held loaded = held
held_next Bubble held loaded = false
held_next Load held loaded = loaded

is_other : (n row : ℕ) → row < n → (n == row) ≡ false
is_other n row h = grind (arith, nat_tests)

one_more : (n row : ℕ) → row ≤ n → row < n + 1
one_more n row h = omega arith

new_row : (k : RegisterUpdate) (n row : ℕ) → row ≤ n → k ≡ Bubble → ((n + bubbles k) == row) ≡ false
new_row Stay n row h e = absurd (cc)
new_row Bubble n row h e = is_other (n + 1) row (one_more n row h)
new_row Load n row h e = absurd (cc)

is_next : (k : RegisterUpdate) (held loaded : StageContent) (n row : ℕ) (a b : Bool) → (held.row == row) ≡ a → (loaded.row == row) ≡ b → (k ≡ Bubble → (n == row) ≡ false) →
    ((moved k held (bubble n) loaded).row == row) ≡ held_next k a b
is_next Stay held loaded n row a b h l new = h
is_next Bubble held loaded n row a b h l new = new refl
is_next Load held loaded n row a b h l new = l

none_next : (k : RegisterUpdate) → held_next k false false ≡ false
none_next Stay = refl
none_next Bubble = refl
none_next Load = refl

lost_here : (k next : RegisterUpdate) → lost k next ≡ not (held_next k true false || held_next next false true)
lost_here Stay next = refl
lost_here Bubble Stay = refl
lost_here Bubble Bubble = refl
lost_here Bubble Load = refl
lost_here Load Stay = refl
lost_here Load Bubble = refl
lost_here Load Load = refl

or_nothing : (a b : Bool) → not (a || b) ≡ not (a || b || false || false)
or_nothing true b = refl
or_nothing false true = refl
or_nothing false false = refl

or_less : (a b : Bool) → not (a || b) ≡ not (false || a || b || false)
or_less true b = refl
or_less false true = refl
or_less false false = refl

or_last : (a b : Bool) → not (a || b) ≡ not (false || false || a || b)
or_last true b = refl
or_last false b = refl

lost_d : (d e m w : RegisterUpdate) → lost d e ≡ not (held_next d true false || held_next e false true || held_next m false false || held_next w false false)
lost_d d e m w = rw (none_next m, none_next w) (lost_here d e ∙ or_nothing (held_next d true false) (held_next e false true))

lost_e : (d e m w : RegisterUpdate) → lost e m ≡ not (held_next d false false || held_next e true false || held_next m false true || held_next w false false)
lost_e d e m w = rw (none_next d, none_next w) (lost_here e m ∙ or_less (held_next e true false) (held_next m false true))

lost_m : (d e m w : RegisterUpdate) → lost m w ≡ not (held_next d false false || held_next e false false || held_next m true false || held_next w false true)
lost_m d e m w = rw (none_next d, none_next e) (lost_here m w ∙ or_last (held_next m true false) (held_next w false true))

lost_f : (f d : RegisterUpdate) → fetch_lost f d ≡ (not (held_next d false true) && not (stays f && stays d))
lost_f Stay Stay = refl
lost_f Bubble Stay = refl
lost_f Load Stay = refl
lost_f Stay Bubble = refl
lost_f Bubble Bubble = refl
lost_f Load Bubble = refl
lost_f f Load = refl

-- the letter of a row, by the stages that hold it and by what is cancelled
abbrev picked : Bool → Bool → Bool → Bool → Bool → Bool → Bool → Bool → Bool → ℕ
picked f d e m w f_lost d_lost e_lost m_lost =
    if w then 87
    else (if m then letter m_lost 109 77
    else (if e then letter e_lost 101 69
    else (if d then letter d_lost 100 68
    else (if f then letter f_lost 102 70
    else 32))))

any_of : (a b c d a' b' c' d' : Bool) → a ≡ a' → b ≡ b' → c ≡ c' → d ≡ d' → (a || b || c || d) ≡ (a' || b' || c' || d')
any_of a b c d a' b' c' d' ea eb ec ed = rw (ea, eb, ec, ed) refl

more_0 : (row n : ℕ) → row ≤ n → row ≤ n
more_0 row n h = h

more_1 : (row n a : ℕ) → row ≤ n → row ≤ n + a
more_1 row n a h = omega arith

more_2 : (row n a b : ℕ) → row ≤ n → row ≤ n + a + b
more_2 row n a b h = omega arith

more_3 : (row n a b c : ℕ) → row ≤ n → row ≤ n + a + b + c
more_3 row n a b c h = omega arith

module _ (s : Observer) (f : ℕ → ℕ) (r : ℕ) (in_f in_d in_e in_m in_w : Bool) (stands : Stands r (fetch_of s f) s.watch in_f in_d in_e in_m in_w)
    (within : r ≤ rows_fetched s.watch (f row.f_pc)) where
  abbrev k : RegisterUpdates
  k = requested_updates f

  next_d : ((next_watch s f).d.row == r) ≡ held_next k.d in_d in_f
  unfolding moved_watch
  next_d =
      is_next k.d s.watch.d (fetch_of s f) _ r in_d in_f stands.d stands.f
      (new_row k.d _ r (more_3 r (rows_fetched s.watch (f row.f_pc)) (bubbles k.w) (bubbles k.m) (bubbles k.e) within))

  next_e : ((next_watch s f).e.row == r) ≡ held_next k.e in_e in_d
  unfolding moved_watch
  next_e =
      is_next k.e s.watch.e s.watch.d _ r in_e in_d stands.e stands.d
      (new_row k.e _ r (more_2 r (rows_fetched s.watch (f row.f_pc)) (bubbles k.w) (bubbles k.m) within))

  next_m : ((next_watch s f).m.row == r) ≡ held_next k.m in_m in_e
  unfolding moved_watch
  next_m =
      is_next k.m s.watch.m s.watch.e _ r in_m in_e stands.m stands.e
      (new_row k.m _ r (more_1 r (rows_fetched s.watch (f row.f_pc)) (bubbles k.w) within))

  next_w : ((next_watch s f).w.row == r) ≡ held_next k.w in_w in_m
  unfolding moved_watch
  next_w = is_next k.w s.watch.w s.watch.m _ r in_w in_m stands.w stands.m (new_row k.w _ r within)

  held_is : is_held r (next_watch s f) ≡ (held_next k.d in_d in_f || held_next k.e in_e in_d || held_next k.m in_m in_e || held_next k.w in_w in_m)
  held_is = any_of _ _ _ _ _ _ _ _ next_d next_e next_m next_w

  letter_is : (number : ℕ) → ending f ≡ Going →
      letter_of r (shown_of number s f)
      ≡ picked in_f in_d in_e in_m in_w (fetch_lost k.f k.d) (lost k.d k.e) (lost k.e k.m) (lost k.m k.w)
  unfolding shown_cycle
  letter_is number e = λ i.
      picked (stands.f i) (stands.d i) (stands.e i) (stands.m i) (stands.w i)
      (goes_on (e i) && fetch_lost k.f k.d) (goes_on (e i) && lost k.d k.e) (goes_on (e i) && lost k.e k.m) (goes_on (e i) && lost k.m k.w)

up_to : (row n most first : ℕ) → (n == row) ≡ true → n ≤ most → most ≤ first → row ≤ first
up_to row n most first e h h' = grind (arith, nat_tests)

letters_tell : (s : Observer) → IsNumbered s.watch → (number : ℕ) (f : ℕ → ℕ) (row : ℕ) → ending f ≡ Going → LettersTell number s f row
letters_tell s h number f row e =
    let k = requested_updates f in
    let some = some_rows s f in
    record {
      in_f = λ st.
          let within = up_to row (fetch_of s f).row _ _ st.f (fetch_numbered s f h) (sum_4 _) in
          letter_is s f row true false false false false st within number e
          ∙ ap (λ b. letter b 102 70)
          (lost_f k.f k.d ∙ ap (λ b. not b && not (stays k.f && stays k.d)) (sym (next_d s f row true false false false false st within)));
      in_d = λ st.
          let within = up_to row s.watch.d.row _ _ st.d h.d some in
          letter_is s f row false true false false false st within number e
          ∙ ap (λ b. letter b 100 68) (lost_d k.d k.e k.m k.w ∙ ap not (sym (held_is s f row false true false false false st within)));
      in_e = λ st.
          let within = up_to row s.watch.e.row _ _ st.e h.e some in
          letter_is s f row false false true false false st within number e
          ∙ ap (λ b. letter b 101 69) (lost_e k.d k.e k.m k.w ∙ ap not (sym (held_is s f row false false true false false st within)));
      in_m = λ st.
          let within = up_to row s.watch.m.row _ _ st.m h.m some in
          letter_is s f row false false false true false st within number e
          ∙ ap (λ b. letter b 109 77) (lost_m k.d k.e k.m k.w ∙ ap not (sym (held_is s f row false false false true false st within)));
    }

-- ---- in a run

first_numbered : IsNumbered first_watch
first_numbered = record { kept = sum_4 0; d = sum_4 0; e = sum_4 0; m = sum_4 0; w = sum_4 0 }

first_in_all : (image : List ℕ) → InAll first_watch (start_state image)
first_in_all image =
    record {
      d = record { live = refl; addr = refl; icode = refl; ifun = refl; rides = refl };
      e = record { live = refl; addr = refl; icode = refl; ifun = refl; rides = refl };
      m = record { live = refl; addr = refl; icode = refl; ifun = refl; rides = refl };
      w = record { live = refl; addr = refl; icode = refl; ifun = refl };
    }

module _ (v : Variant) (terms : List Term) (window : CycleRange) (k : ℕ) (u s : Observer) (f : ℕ → ℕ) (is : s ≡ after (sources pipe_rows terms) window (suc k) u f) where
  watch_after : s.watch ≡ next_watch u f
  unfolding after
  watch_after = ap (λ (x : Observer). x.watch) is

  state_after : s.state ≡ next u.state f
  unfolding after
  state_after = ap (λ (x : Observer). x.state) is

  end_after : s.end ≡ end_by (ending f) (stat_of (f row.Stat))
  unfolding after
  end_after = ap (λ (x : Observer). x.end) is

  one_more_numbered : IsNumbered u.watch → IsNumbered s.watch
  one_more_numbered h = subst IsNumbered (sym watch_after) (numbered_after u f h)

  one_more_held : InAll u.watch u.state → is_aok s.end ≡ true → InAll s.watch s.state
  one_more_held h e =
      let goes : ending f ≡ Going = going f (ap is_aok (sym end_after) ∙ e) in
      subst (λ w. InAll w s.state) (sym watch_after) (subst (λ p. InAll (next_watch u f) p) (sym state_after) (in_all_next u f h goes))

watches_numbered : (v : Variant) (terms : List Term) (window : CycleRange) (image : List ℕ) (k : ℕ) (s : Observer) → Observes v terms window image k s → IsNumbered s.watch
watches_numbered v terms window image zero s h = subst IsNumbered (sym (ap (λ (x : Observer). x.watch) h)) first_numbered
watches_numbered v terms window image (suc k) s h =
    one_more_numbered v terms window k h.0 s h.1 h.5 (watches_numbered v terms window image k h.0 h.2)

watches_held : (v : Variant) (terms : List Term) (window : CycleRange) (image : List ℕ) (k : ℕ) (s : Observer) → Observes v terms window image k s →
    is_aok s.end ≡ true → InAll s.watch s.state
watches_held v terms window image zero s h e = subst (λ (x : Observer). InAll x.watch x.state) (sym h) (first_in_all image)
watches_held v terms window image (suc k) s h e =
    one_more_held v terms window k h.0 s h.1 h.5 (watches_held v terms window image k h.0 h.2 h.3) e

pub each_row_tells : EachRowTells
each_row_tells v terms window image k s h =
    let numbered = watches_numbered v terms window image k s h in
    record {
      state = λ e. holds_state s.watch s.state (watches_held v terms window image k s h e);
      numbered = numbered;
      letters = letters_tell s numbered;
    }

-- ---- fetches

again : (f d : RegisterUpdate) (fetch : StageContent) (pc next : ℕ) → fetch.live ≡ true →
    (if (kept_behind f d fetch).live && ((kept_behind f d fetch).addr == pc) then (kept_behind f d fetch).row else next)
    ≡ (if stays f && not (loads d) && (fetch.addr == pc) then fetch.row else next)
again Stay Stay fetch pc next e = rw e refl
again Stay Bubble fetch pc next e = rw e refl
again Stay Load fetch pc next e = refl
again Bubble d fetch pc next e = refl
again Load d fetch pc next e = refl

fetch_next : (s : Observer) (f : ℕ → ℕ) (pc : ℕ) →
    (if waits (next_watch s f) pc then (next_watch s f).kept.row else (next_watch s f).rows + 1)
    ≡ (if stays (requested_updates f).f && not (loads (requested_updates f).d) && (f row.f_pc == pc) then (fetch_of s f).row else (next_watch s f).rows + 1)
unfolding moved_watch
fetch_next s f pc = again (requested_updates f).f (requested_updates f).d (fetch_of s f) pc _ refl

pub each_fetch_is_a_row : EachFetchIsARow
each_fetch_is_a_row s t f g e =
    subst
    (λ (w : StageContents). (if waits w (g row.f_pc) then w.kept.row else w.rows + 1) ≡ (if is_made_again f g then (fetch_of s f).row else w.rows + 1))
    (sym e) (fetch_next s f (g row.f_pc))
