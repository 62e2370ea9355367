-- What the stages hold, by rows of the diagram: when a pipeline register moves, its contents move.
use Rattle.std.specs.Prelude.{ℕ, ◌+◌, Bool, true, false, ◌&&◌, ◌==◌, if◌then◌else◌}
use Rattle.y86_isa.specs.Blocks.{field_a, field_b}
use Rattle.dp_signals.specs.PipeCycle.{moved}
use Rattle.dp_signals.specs.PipeNames as row
use Rattle.y86_base.specs.Words.{set}
use Rattle.dp_signals.specs.declared.register_updates.RegisterUpdate.{RegisterUpdate}
use Rattle.dp_signals.specs.declared.register_updates.RegisterUpdate.TheVariants.{Stay, Bubble, Load}
use Rattle.dp_signals.specs.declared.register_updates.RegisterUpdates.{RegisterUpdates}
use Rattle.dp_signals.specs.declared.pipe_state.PipeState.{PipeState}
use Rattle.pipe_stage_text.specs.declared.stage_content.StageContent.{StageContent}
use Rattle.pipe_stage_text.specs.declared.stage_contents.StageContents.{StageContents}

-- a bubble
abbrev pub bubble : ℕ → StageContent
bubble row = record { row = row; live = false; failed = false; addr = 0; icode = 1; ifun = 0; r_a = 15; r_b = 15; val_c = 0 }

-- the contents before the first cycle
abbrev pub first_watch : StageContents
first_watch = record { kept = bubble 0; d = bubble 0; e = bubble 0; m = bubble 0; w = bubble 0; rows = 0 }

-- the fetch of the cycle before waits, and is made again
abbrev pub waits : StageContents → ℕ → Bool
waits watch pc = watch.kept.live && watch.kept.addr == pc

-- what is fetched: what D would load, on a new row unless it waited
abbrev pub fetched : StageContents → PipeState → (ℕ → ℕ) → StageContent
fetched watch p f =
    record {
      row = if waits watch (f row.f_pc) then watch.kept.row else watch.rows + 1;
      live = true;
      failed = set (f row.imem_error);
      addr = f row.f_pc;
      icode = f row.f_icode;
      ifun = f row.f_ifun;
      r_a = field_a p.mem (f row.f_pc) (set (f row.need_regids));
      r_b = field_b p.mem (f row.f_pc) (set (f row.need_regids));
      val_c = f row.f_valC;
    }

abbrev pub rows_fetched : StageContents → ℕ → ℕ
rows_fetched watch pc = if waits watch pc then watch.rows else watch.rows + 1

-- a bubble in a register begins a row
abbrev pub bubbles : RegisterUpdate → ℕ
bubbles Stay = 0
bubbles Bubble = 1
bubbles Load = 0

-- a fetch is made again if F stays and D doesn't load it
abbrev pub kept_behind : RegisterUpdate → RegisterUpdate → StageContent → StageContent
kept_behind Stay Stay fetch = fetch
kept_behind Stay Bubble fetch = fetch
kept_behind Stay Load fetch = bubble 0
kept_behind Bubble d fetch = bubble 0
kept_behind Load d fetch = bubble 0

abbrev pub kept : RegisterUpdates → StageContent → StageContent
kept k fetch = kept_behind k.f k.d fetch

-- what the stages hold in the next cycle; among the bubbles of one cycle the one in W has the first row
unfoldable pub moved_watch : StageContents → StageContent → RegisterUpdates → StageContents
moved_watch watch fetch k =
    let w_row = rows_fetched watch fetch.addr + bubbles k.w in
    let m_row = w_row + bubbles k.m in
    let e_row = m_row + bubbles k.e in
    let d_row = e_row + bubbles k.d in
    record {
      kept = kept k fetch;
      d = moved k.d watch.d (bubble d_row) fetch;
      e = moved k.e watch.e (bubble e_row) watch.d;
      m = moved k.m watch.m (bubble m_row) watch.e;
      w = moved k.w watch.w (bubble w_row) watch.m;
      rows = d_row;
    }
