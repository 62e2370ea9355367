-- The states of the pipeline registers D, E, M and W: which are legal together, and how they move in a cycle.
use Rattle.std.specs.Prelude.{Bool, false, not, ◌&&◌, ◌||◌, if◌then◌else◌}

-- what a register holds: an instruction of the run (good), one that was fetched on the wrong path (wrong), or
-- neither, a bubble; for a good one: it stops the machine, it is a ret, it is a mispredicted jump (missed)
pub record StageFlow : Type 0 where
  pub good : Bool
  pub wrong : Bool
  pub stops : Bool
  pub ret : Bool
  pub missed : Bool

abbrev pub bubble_flow : StageFlow
bubble_flow = record { good = false; wrong = false; stops = false; ret = false; missed = false }

-- the states of D to W; the oldest instruction is in W, the youngest in D
pub record Flow : Type 0 where
  pub d : StageFlow
  pub e : StageFlow
  pub m : StageFlow
  pub w : StageFlow

-- nothing but bubbles, as at the start
abbrev pub empty_flow : Flow
empty_flow = record { d = bubble_flow; e = bubble_flow; m = bubble_flow; w = bubble_flow }

-- ---- which flows are legal
-- there is a good instruction younger than the one in E, in M, in W
abbrev pub is_followed_e : Flow → Bool
is_followed_e v = v.d.good

abbrev pub is_followed_m : Flow → Bool
is_followed_m v = v.d.good || v.e.good

abbrev pub is_followed_w : Flow → Bool
is_followed_w v = (v.d.good || v.e.good) || v.m.good

-- where E is wrong, D isn't good
abbrev pub no_good_behind_wrong : Flow → Bool
no_good_behind_wrong v = not (v.e.wrong && v.d.good)

-- only the youngest good instruction stops
abbrev pub youngest_stops_alone : Flow → Bool
youngest_stops_alone v = not (v.e.stops && is_followed_e v) && (not (v.m.stops && is_followed_m v) && not (v.w.stops && is_followed_w v))

-- there is a good instruction, and the youngest one is a missed jump in E, or stops and isn't a ret unless it is in W
abbrev pub wrong_may_follow : Flow → Bool
wrong_may_follow v =
    if v.d.good then v.d.stops && not v.d.ret
    else (if v.e.good then (v.e.stops && not v.e.ret) || v.e.missed
    else (if v.m.good then v.m.stops && not v.m.ret
    else v.w.stops))

-- D and E hold wrong instructions only where these may follow
abbrev pub wrong_has_reason : Flow → Bool
wrong_has_reason v = not (v.d.wrong || v.e.wrong) || wrong_may_follow v

-- a missed jump in E is the youngest good instruction; in M too, unless the file fetches early from E
abbrev pub missed_jump_is_youngest : Bool → Flow → Bool
missed_jump_is_youngest je v = not (v.e.missed && is_followed_e v) && (je || not (v.m.missed && is_followed_m v))

-- a ret in E or M is the youngest good instruction; in W too, unless the file fetches early from M
abbrev pub ret_is_youngest : Bool → Flow → Bool
ret_is_youngest rm v = not (v.e.ret && is_followed_e v) && (not (v.m.ret && is_followed_m v) && (rm || not (v.w.ret && is_followed_w v)))

unfoldable pub flow_legal : Bool → Bool → Flow → Bool
flow_legal je rm v =
    no_good_behind_wrong v
    && (youngest_stops_alone v
    && (wrong_has_reason v
    && (missed_jump_is_youngest je v
    && ret_is_youngest rm v)))

-- ---- the path
-- the run continues at the PC that was predicted after this instruction
abbrev pub follows_prediction : StageFlow → Bool
follows_prediction s = not (s.stops || (s.ret || s.missed))

-- a fact of the youngest good instruction, given the facts of D, E, M and W; that of W if there is none
abbrev pub of_youngest : Flow → Bool → Bool → Bool → Bool → Bool
of_youngest v d e m w = if v.d.good then d else (if v.e.good then e else (if v.m.good then m else w))

-- the predicted PC is that of the next instruction: the youngest good one, if there is one, neither stops nor is a ret
-- nor a missed jump
unfoldable pub path : Flow → Bool
path v = of_youngest v (follows_prediction v.d) (follows_prediction v.e) (follows_prediction v.m) (follows_prediction v.w)

-- the youngest good instruction stops
unfoldable pub youngest_stops : Flow → Bool
youngest_stops v = of_youngest v v.d.stops v.e.stops v.m.stops v.w.stops

-- ---- motion
-- the values of a register's stall and bubble signals
pub record RegisterControl : Type 0 where
  pub stall : Bool
  pub bubble : Bool

pub record RegisterControls : Type 0 where
  pub f : RegisterControl
  pub d : RegisterControl
  pub e : RegisterControl
  pub m : RegisterControl
  pub w : RegisterControl

-- neither stalled nor bubbled
abbrev pub loads : RegisterControl → Bool
loads k = not (k.stall || k.bubble)

-- a truth about a register after the cycle: if stalled it stays, if bubbled it is false, else it is the loaded one
abbrev pub moved_truth : RegisterControl → Bool → Bool → Bool
moved_truth k old loaded = if k.stall then old else (if k.bubble then false else loaded)

abbrev pub moved_stage : RegisterControl → StageFlow → StageFlow → StageFlow
moved_stage k old loaded = record {
  good = moved_truth k old.good loaded.good;
  wrong = moved_truth k old.wrong loaded.wrong;
  stops = moved_truth k old.stops loaded.stops;
  ret = moved_truth k old.ret loaded.ret;
  missed = moved_truth k old.missed loaded.missed;
}

-- what D loads: the facts of the fetched instruction if the fetch is good, else a wrong instruction
abbrev pub fetched_flow : Bool → StageFlow → StageFlow
fetched_flow good facts = record {
  good = good;
  wrong = not good;
  stops = good && facts.stops;
  ret = good && facts.ret;
  missed = good && facts.missed;
}

-- M's state as W loads it: only D, E and M record a missed jump
abbrev pub entering_w : StageFlow → StageFlow
entering_w s = record { good = s.good; wrong = s.wrong; stops = s.stops; ret = s.ret; missed = false }

-- the next cycle's flow, with what D loads
unfoldable pub moved_flow : RegisterControls → StageFlow → Flow → Flow
moved_flow k fetched v = record {
  d = moved_stage k.d v.d fetched;
  e = moved_stage k.e v.e v.d;
  m = moved_stage k.m v.m v.e;
  w = moved_stage k.w v.w (entering_w v.m);
}

-- ---- the obligations on motion
-- the good instruction in D goes on to E
abbrev pub leaves : RegisterControls → Flow → Bool
leaves k v = v.d.good && (loads k.e && not k.d.stall)

abbrev pub stall_excludes_bubble : RegisterControl → Bool
stall_excludes_bubble k = not (k.stall && k.bubble)

-- no register is both stalled and bubbled
abbrev pub o23 : RegisterControls → Bool
o23 k = stall_excludes_bubble k.f && (stall_excludes_bubble k.d && (stall_excludes_bubble k.e && (stall_excludes_bubble k.m && stall_excludes_bubble k.w)))

-- a good instruction goes on: the next register loads, and its own isn't stalled
abbrev pub passes_on : RegisterControl → RegisterControl → StageFlow → Bool
passes_on next own s = not s.good || (loads next && not own.stall)

-- a good instruction in D leaves, or stays while E doesn't load
abbrev pub goes_or_stays : RegisterControls → Flow → Bool
goes_or_stays k v = not v.d.good || (leaves k v || (k.d.stall && not (loads k.e)))

-- no good instruction is lost or doubled
abbrev pub o24 : RegisterControls → Flow → Bool
o24 k v = not (v.w.good && k.w.stall) && (passes_on k.w k.m v.m && (passes_on k.m k.e v.e && goes_or_stays k v))

-- if the path holds next: F loads if D loads a good fetch, else F is stalled and the path holds now
abbrev pub path_is_kept : RegisterControls → Bool → Bool → Bool → Bool
path_is_kept k good now next = not next || (if loads k.d && good then loads k.f else k.f.stall && now)

-- the next flow is legal, M and W hold no wrong instruction, and the path is kept
abbrev pub next_is_right : Bool → Bool → RegisterControls → Bool → Flow → Flow → Bool
next_is_right je rm k good v next = flow_legal je rm next && (not (next.m.wrong || next.w.wrong) && path_is_kept k good (path v) (path next))

-- the next flow is right; `good` says whether the fetch is good, `facts` are those of the fetched instruction
abbrev pub o25 : Bool → Bool → RegisterControls → Bool → StageFlow → Flow → Bool
o25 je rm k good facts v = next_is_right je rm k good v (moved_flow k (fetched_flow good facts) v)

abbrev pub is_bubble : StageFlow → Bool
is_bubble s = not (s.good || s.wrong)

-- E, M and W hold bubbles
abbrev pub is_drained : Flow → Bool
is_drained v = is_bubble v.e && (is_bubble v.m && is_bubble v.w)

-- if E, M and W hold bubbles, a good instruction in D leaves
abbrev pub o26 : RegisterControls → Flow → Bool
o26 k v = not (v.d.good && is_drained v) || leaves k v

-- if all registers hold bubbles, D loads
abbrev pub o27 : RegisterControls → Flow → Bool
o27 k v = not (is_bubble v.d && is_drained v) || loads k.d
