-- What the rows of a diagram mean: each pipeline register holds the instruction or the bubble of its row, a row is one
-- fetch or one bubble, and a small letter means that no register holds the row in the next cycle.
use Rattle.std.specs.Prelude.{◌≡◌, ◌≤◌, ℕ, suc, ◌+◌, Bool, true, false, not, ◌&&◌, ◌||◌, ◌==◌, List, if◌then◌else◌}
use Rattle.y86_base.specs.declared.parts.Variant.{Variant}
use Rattle.y86_isa.specs.Machine.{is_aok}
use Rattle.hcl_types.specs.declared.term.Term.{Term}
use Rattle.dp_signals.specs.PipeCycle.{requested_updates, ending}
use Rattle.dp_signals.specs.PipeNames as row
use Rattle.dp_signals.specs.declared.register_updates.CycleEnd.TheVariants.{Going}
use Rattle.dp_signals.specs.declared.register_updates.RegisterUpdate.{RegisterUpdate}
use Rattle.dp_signals.specs.declared.register_updates.RegisterUpdate.TheVariants.{Stay, Bubble, Load}
use Rattle.dp_signals.specs.declared.register_updates.RegisterUpdates.{RegisterUpdates}
use Rattle.dp_signals.specs.declared.pipe_state.PipeState.{PipeState}
use Rattle.pipe_stage_text.specs.Diagram.{letter, letter_of}
use Rattle.pipe_stage_text.specs.StageContents.{fetched, moved_watch}
use Rattle.pipe_stage_text.specs.Observer.{Observes, Observer, shown_of}
use Rattle.pipe_stage_text.specs.declared.stage_content.StageContent.{StageContent}
use Rattle.pipe_stage_text.specs.declared.stage_contents.StageContents.{StageContents}
use Rattle.pipe_stage_text.specs.declared.observer.CycleRange.{CycleRange}

-- ---- what the registers hold

-- h is the instruction in a register, by its address, icode and ifun, or the bubble in it
pub record Holds (h : StageContent) (is_live : Bool) (from i fn : ℕ) : Type 0 where
  pub live : h.live ≡ is_live
  pub addr : h.addr ≡ from
  pub icode : h.icode ≡ i
  pub ifun : h.ifun ≡ fn

pub record HoldsState (watch : StageContents) (p : PipeState) : Type 0 where
  pub d : Holds watch.d p.d.live p.d.trail.addr p.d.icode p.d.ifun
  pub e : Holds watch.e p.e.live p.e.trail.addr p.e.icode p.e.ifun
  pub m : Holds watch.m p.m.live p.m.trail.addr p.m.icode p.m.ifun
  pub w : Holds watch.w p.w.live p.w.trail.addr p.w.icode p.w.trail.ifun

-- the row of each register, and that of the fetch that waits, are among the rows so far
pub record IsNumbered (watch : StageContents) : Type 0 where
  pub kept : watch.kept.row ≤ watch.rows
  pub d : watch.d.row ≤ watch.rows
  pub e : watch.e.row ≤ watch.rows
  pub m : watch.m.row ≤ watch.rows
  pub w : watch.w.row ≤ watch.rows

-- ---- the fetch of the next cycle

abbrev pub fetch_of : Observer → (ℕ → ℕ) → StageContent
fetch_of s f = fetched s.watch s.state f

abbrev pub stays : RegisterUpdate → Bool
stays Stay = true
stays Bubble = false
stays Load = false

abbrev pub loads : RegisterUpdate → Bool
loads Stay = false
loads Bubble = false
loads Load = true

-- F stays and D doesn't load what was fetched, and the next fetch is from the same address
abbrev pub is_made_again : (ℕ → ℕ) → (ℕ → ℕ) → Bool
is_made_again f g = stays (requested_updates f).f && not (loads (requested_updates f).d) && (f row.f_pc == g row.f_pc)

-- ---- letters

-- which of F, D, E, M and W hold a row
pub record Stands (row : ℕ) (fetch : StageContent) (watch : StageContents) (in_f in_d in_e in_m in_w : Bool) : Type 0 where
  pub f : (fetch.row == row) ≡ in_f
  pub d : (watch.d.row == row) ≡ in_d
  pub e : (watch.e.row == row) ≡ in_e
  pub m : (watch.m.row == row) ≡ in_m
  pub w : (watch.w.row == row) ≡ in_w

-- whether any register holds a row
abbrev pub is_held : ℕ → StageContents → Bool
is_held row watch = watch.d.row == row || watch.e.row == row || watch.m.row == row || watch.w.row == row

abbrev pub next_watch : Observer → (ℕ → ℕ) → StageContents
next_watch s f = moved_watch s.watch (fetch_of s f) (requested_updates f)

-- For a row that only one stage holds, in the cycle with this number: its letter is small (`d`, `e`, `m`) exactly if no
-- register holds it next; but the letter of a fetch is small (`f`) exactly if D doesn't hold it next and F and D don't
-- both stay.
pub record LettersTell (number : ℕ) (s : Observer) (f : ℕ → ℕ) (row : ℕ) : Type 0 where
  pub in_f : Stands row (fetch_of s f) s.watch true false false false false →
      letter_of row (shown_of number s f)
      ≡ letter (not ((next_watch s f).d.row == row) && not (stays (requested_updates f).f && stays (requested_updates f).d)) 102 70
  pub in_d : Stands row (fetch_of s f) s.watch false true false false false → letter_of row (shown_of number s f) ≡ letter (not (is_held row (next_watch s f))) 100 68
  pub in_e : Stands row (fetch_of s f) s.watch false false true false false → letter_of row (shown_of number s f) ≡ letter (not (is_held row (next_watch s f))) 101 69
  pub in_m : Stands row (fetch_of s f) s.watch false false false true false → letter_of row (shown_of number s f) ≡ letter (not (is_held row (next_watch s f))) 109 77

-- ---- in a run

pub record RowsTell (s : Observer) : Type 0 where
  pub state : is_aok s.end ≡ true → HoldsState s.watch s.state
  pub numbered : IsNumbered s.watch
  pub letters : (number : ℕ) (f : ℕ → ℕ) (row : ℕ) → ending f ≡ Going → LettersTell number s f row

abbrev pub EachRowTells : Type 0
EachRowTells =
    (v : Variant) (terms : List Term) (window : CycleRange) (image : List ℕ) (k : ℕ) (s : Observer) → Observes v terms window image k s → RowsTell s

-- a fetch has the row of the fetch before exactly if that one is made again, and otherwise a new row
abbrev pub EachFetchIsARow : Type 0
EachFetchIsARow =
    (s t : Observer) (f g : ℕ → ℕ) → t.watch ≡ next_watch s f → (fetch_of t g).row ≡ (if is_made_again f g then (fetch_of s f).row else t.watch.rows + 1)
