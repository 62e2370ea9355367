-- Programs that stop, and the end of their runs on PIPE.
use Rattle.std.specs.Prelude.{◌≡◌, ◌≢◌, ℕ, ◌*◌, ◌≤◌, List, length}
use Rattle.y86_base.specs.declared.parts.Stat.TheVariants.{Aok}
use Rattle.y86_base.specs.declared.parts.Variant.{Variant}
use Rattle.y86_isa.specs.Run.{run, records}
use Rattle.dp_signals.specs.PipeRun.{PipeHistory}
use Rattle.prog_cosim.specs.RunsTo.{end_of}

-- the run of instructions of an image has `count` instructions, and has stopped after them
pub record StopsIn (v : Variant) (image : List ℕ) (count : ℕ) : Type 0 where
  pub records : length (records v image count) ≡ count
  pub stopped : (run v image count).stat ≢ Aok

-- a machine of PIPE after `cycles` cycles has retired these instructions and holds what they left, in at most five
-- cycles for each
pub record EndsAs (v : Variant) (image : List ℕ) (count cycles : ℕ) (p : PipeHistory) : Type 0 where
  pub in_time : cycles ≤ 5 * count
  pub retired : p.records ≡ records v image count
  pub end : end_of p ≡ run v image count
