use Rattle.std.proofs.Common.{◌≡◌, ℕ, take, replicate}
use Rattle.std.proofs.lemmas.List.{take-replicate}
use Rattle.yo_object.proofs.printer.put_blanks.Goals as goal

pub returns : goal.returns
returns c =
    let blanks : take {A = ℕ} c.args.count (replicate {A = ℕ} 27 32) ≡ replicate {A = ℕ} c.args.count 32 = take-replicate c.args.count 27 32 c.requires in
    rw (← blanks) c.put.ensures
