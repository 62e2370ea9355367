-- The exit statuses of calls that end without an answer.
use Rattle.std.specs.Prelude.{◌≡◌, ℕ, List}
use Rattle.wb_io.specs.declared.files.ReadErr.{ReadErr}
use Rattle.wb_io.specs.declared.files.ReadErr.TheVariants as reads
use Rattle.tell_faults.specs.declared.stop.Stop.{Stop}
use Rattle.tell_faults.specs.declared.stop.Stop.TheVariants.{Usage, Read, Write, Fault, TooLong, Memory}

abbrev pub status_of : Stop → ℕ
status_of (Usage text) = 2
status_of (Read name) = 3
status_of Write = 4
status_of (Fault text) = 5
status_of Memory = 6
status_of (TooLong name) = 7

-- the stop at a read of a file that failed: it names the file, or there was no memory for its bytes
abbrev pub IsUnread : List ℕ → ReadErr → Stop → Type 0
IsUnread file reads.Failed (Read name) = name.now ≡ file
IsUnread file reads.TooLong (TooLong name) = name.now ≡ file
IsUnread file reads.Memory Memory = Unit {0}
IsUnread file _ _ = ⊥
