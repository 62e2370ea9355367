-- What the obligations on motion imply for the kinds.
use Rattle.std.proofs.Common.{◌≡◌, ℕ, Bool, true, false, not, ◌&&◌, ◌||◌, cond, refl, sym, ap, ◌∙◌, subst}
use Rattle.std.proofs.lemmas.Bool.{and_parts}
use Rattle.dp_signals.specs.PipeCycle.{any_both}
use Rattle.dp_signals.specs.declared.pipe_state.PipeState.{PipeState}
use Rattle.pipe_refinement.specs.Facts.{GoodFetch, MotionFacts}
use Rattle.pipe_refinement.specs.Invariant.{RunContext, run_stage_flow, run_flow}
use Rattle.pipe_refinement.specs.Kinds.{Schedule, Good, StageKind, requested_controls, fetched_kind, in_f, is_good, is_wrong, next_schedule}
use Rattle.pipe_motion.specs.Flow.{RegisterControls, fetched_flow, flow_legal, loads, moved_flow, next_is_right, path, path_is_kept}
use Rattle.pipe_refinement.proofs.Moves.{fetched_is, keeps, keeps_good, leaves_by, none_both, flow_moved}
use Rattle.pipe_refinement.proofs.Views.{seen}

pub good_kind : (b : Bool) → is_good (fetched_kind b) ≡ b
good_kind true = refl
good_kind false = refl

some_kind : (b : Bool) → is_good (fetched_kind b) || is_wrong (fetched_kind b) ≡ true
some_kind true = refl
some_kind false = refl

neither : (a b : Bool) → not (a || b) ≡ true → (a ≡ false) × (b ≡ false)
neither false false h = (refl, refl)
neither true b h = cc
neither false true h = cc

path_in : (n l loads stays now : Bool) → not n || cond l loads (stays && now) ≡ true → n ≡ true → l ≡ true → loads ≡ true
path_in true true loads stays now h a b = h
path_in false l loads stays now h a b = cc
path_in true false loads stays now h a b = cc

path_out : (n l loads stays now : Bool) → not n || cond l loads (stays && now) ≡ true → n ≡ true → l ≡ false → (stays ≡ true) × (now ≡ true)
path_out true false loads stays now h a b = and_parts stays now h
path_out false l loads stays now h a b = cc
path_out true true loads stays now h a b = cc

leaves_from : (d eg ew mg mw wg ww l : Bool) → not (d && (not (eg || ew) && (not (mg || mw) && not (wg || ww)))) || l ≡ true →
    d ≡ true → eg ≡ false → ew ≡ false → mg ≡ false → mw ≡ false → wg ≡ false → ww ≡ false → l ≡ true
leaves_from true false false false false false false l h a b c d e f g = h
leaves_from false eg ew mg mw wg ww l h a b c d e f g = cc
leaves_from true true ew mg mw wg ww l h a b c d e f g = cc
leaves_from true false true mg mw wg ww l h a b c d e f g = cc
leaves_from true false false true mw wg ww l h a b c d e f g = cc
leaves_from true false false false true wg ww l h a b c d e f g = cc
leaves_from true false false false false true ww l h a b c d e f g = cc
leaves_from true false false false false false true l h a b c d e f g = cc

-- the kinds after the cycle, and why its predicted PC is right if it is on the path
pub record Motion (x : RunContext) (p : PipeState) (f : ℕ → ℕ) (c : Schedule) (fetch_good : Bool) : Type 0 where
  pub some : is_good (fetched_kind fetch_good) || is_wrong (fetched_kind fetch_good) ≡ true
  pub fetch : is_good (fetched_kind fetch_good) ≡ true → GoodFetch x.v x.s p f c (run_flow x c)
  pub apart : any_both f ≡ false
  pub kept : keeps_good (requested_controls f) c ≡ true
  pub legal : flow_legal x.s.je x.s.rm (run_flow x (next_schedule (requested_controls f) (fetched_kind fetch_good) c)) ≡ true
  pub right_m : is_wrong (next_schedule (requested_controls f) (fetched_kind fetch_good) c).m ≡ false
  pub right_w : is_wrong (next_schedule (requested_controls f) (fetched_kind fetch_good) c).w ≡ false
  pub entered : path (run_flow x (next_schedule (requested_controls f) (fetched_kind fetch_good) c)) ≡ true →
      loads (requested_controls f).d && is_good (fetched_kind fetch_good) ≡ true → loads (requested_controls f).f ≡ true
  pub stayed : path (run_flow x (next_schedule (requested_controls f) (fetched_kind fetch_good) c)) ≡ true →
      loads (requested_controls f).d && is_good (fetched_kind fetch_good) ≡ false → ((requested_controls f).f.stall ≡ true) × (path (run_flow x c) ≡ true)
  pub from_d : is_good c.d ≡ true → is_good c.e ≡ false → is_good c.m ≡ false → is_good c.w ≡ false → is_wrong c.e ≡ false →
      leaves_by (requested_controls f) (is_good c.d) ≡ true
  pub from_none : is_good c.d ≡ false → is_good c.e ≡ false → is_good c.m ≡ false → is_good c.w ≡ false → is_wrong c.d ≡ false →
      is_wrong c.e ≡ false → loads (requested_controls f).d ≡ true

module _ (x : RunContext) (p : PipeState) (f : ℕ → ℕ) (c : Schedule) (fetch_good : Bool) (rm : is_wrong c.m ≡ false) (rw_ : is_wrong c.w ≡ false)
    (q : MotionFacts x.v x.s p f c (run_flow x c) fetch_good (run_stage_flow x Good (in_f c))) where
  abbrev k : RegisterControls
  k = requested_controls f

  abbrev g : StageKind
  g = fetched_kind fetch_good

  abbrev c' : Schedule
  c' = next_schedule k g c

  kept_now : keeps_good k c ≡ true
  kept_now = keeps x k c q.kept

  next_flow : moved_flow k (fetched_flow fetch_good (run_stage_flow x Good (in_f c))) (run_flow x c) ≡ run_flow x c'
  next_flow = ap (λ z. moved_flow k z (run_flow x c)) (fetched_is x fetch_good (in_f c)) ∙ flow_moved x k g c kept_now

  right : next_is_right x.s.je x.s.rm k fetch_good (run_flow x c) (run_flow x c') ≡ true
  right = subst (λ z. next_is_right x.s.je x.s.rm k fetch_good (run_flow x c) z ≡ true) next_flow q.next

  abbrev path_kept : Bool
  path_kept = path_is_kept k fetch_good (path (run_flow x c)) (path (run_flow x c'))

  behind_lawful : not ((run_flow x c').m.wrong || (run_flow x c').w.wrong) && path_kept ≡ true
  behind_lawful = (and_parts (flow_legal x.s.je x.s.rm (run_flow x c')) (not ((run_flow x c').m.wrong || (run_flow x c').w.wrong) && path_kept) right).1

  not_wrong : ((run_flow x c').m.wrong ≡ false) × ((run_flow x c').w.wrong ≡ false)
  not_wrong =
      neither (run_flow x c').m.wrong (run_flow x c').w.wrong (and_parts (not ((run_flow x c').m.wrong || (run_flow x c').w.wrong)) path_kept behind_lawful).0

  path_now : path_kept ≡ true
  path_now = (and_parts (not ((run_flow x c').m.wrong || (run_flow x c').w.wrong)) path_kept behind_lawful).1

  as_good : (z : Bool) → loads k.d && is_good g ≡ z → loads k.d && fetch_good ≡ z
  as_good z e = sym (ap (λ y. loads k.d && y) (good_kind fetch_good)) ∙ e

  drained : is_good c.d ≡ true → is_good c.e ≡ false → is_good c.m ≡ false → is_good c.w ≡ false → is_wrong c.e ≡ false → leaves_by k (is_good c.d) ≡ true
  unfolding run_flow
  drained d e m w we =
      leaves_from (is_good c.d) (is_good c.e) (is_wrong c.e) (is_good c.m) (is_wrong c.m) (is_good c.w) (is_wrong c.w) (leaves_by k (is_good c.d))
      q.leaves d e we m rm w rw_

  empty_d_is : (a b : Bool) → a ≡ false → b ≡ false → not (a || b) ≡ true
  empty_d_is false false p q = refl
  empty_d_is true b p q = cc
  empty_d_is false true p q = cc

  filled : is_good c.d ≡ false → is_good c.e ≡ false → is_good c.m ≡ false → is_good c.w ≡ false → is_wrong c.d ≡ false → is_wrong c.e ≡ false → loads k.d ≡ true
  unfolding run_flow
  filled d e m w wd we =
      leaves_from (not (is_good c.d || is_wrong c.d)) (is_good c.e) (is_wrong c.e) (is_good c.m) (is_wrong c.m) (is_good c.w) (is_wrong c.w) (loads k.d)
      q.enters (empty_d_is _ _ d wd) e we m rm w rw_

  pub motion_of : Motion x p f c fetch_good
  motion_of = record {
    some = some_kind fetch_good;
    fetch = λ e. q.fetch (sym (good_kind fetch_good) ∙ e);
    apart = none_both f q.apart;
    kept = kept_now;
    legal = (and_parts (flow_legal x.s.je x.s.rm (run_flow x c')) (not ((run_flow x c').m.wrong || (run_flow x c').w.wrong) && path_kept) right).0;
    right_m = sym (seen x c').wrong_m ∙ not_wrong.0;
    right_w = sym (seen x c').wrong_w ∙ not_wrong.1;
    entered = λ n e. path_in (path (run_flow x c')) (loads k.d && fetch_good) (loads k.f) k.f.stall (path (run_flow x c)) path_now n (as_good true e);
    stayed = λ n e. path_out (path (run_flow x c')) (loads k.d && fetch_good) (loads k.f) k.f.stall (path (run_flow x c)) path_now n (as_good false e);
    from_d = drained;
    from_none = filled;
  }
