use Rattle.std.proofs.Common.{ap, sym, ◌∙◌, arith}
use Rattle.std.specs.Prelude.{is_some, not}
use Rattle.yas_asm.proofs.SoundLemmas.{place_fits}
use Rattle.yas_asm.proofs.check.statement_fault.Goals as goal

pub overlaps-requires : goal.overlaps-requires
overlaps-requires c =
    let there = sym (ap is_some c.place.ensures) ∙ c.is_none.ensures ∙ ap not c.if-is_none.false in
    let fits = place_fits c.args.pass.now.variant c.args.pass.now.size c.args.address 18446744073709551615 c.args.parsed.now.statement (omega arith) (omega arith) there in
    omega (arith, fits, c.width_of.ensures)
