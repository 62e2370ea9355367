use Rattle.std.proofs.Common.{◌++◌, ap, arith, sym, ◌∙◌}
use Rattle.std.specs.List.{range_with_len}
use Rattle.yas_asm.specs.Assembly.{overlaps}
use Rattle.yas_asm.proofs.SoundLemmas.{place_fits}
use Rattle.yas_asm.proofs.PassLemmas.{free_without_fault, emitted-free}
use Rattle.yas_asm.proofs.passes.enter.Goals as goal

pub add_range-requires-clause-fits : goal.add_range-requires-clause-fits
add_range-requires-clause-fits c =
    let free = free_without_fault _ _ _ _ _ _ _ (sym c.statement_fault.ensures ∙ c.in_default.is) in
    let fits = place_fits c.args.pass.now.variant c.args.pass.now.size c.args.address 18446744073709551615 c.args.parsed.now.statement (omega arith) (omega arith) free.inside in
    omega (arith, fits, c.width_of-width.ensures)

pub add_range-requires-clause-free : goal.add_range-requires-clause-free
add_range-requires-clause-free c =
    let free = free_without_fault _ _ _ _ _ _ _ (sym c.statement_fault.ensures ∙ c.in_default.is) in
    ap (overlaps c.args.used.now c.args.address) c.width_of-width.ensures ∙ free.free

pub returns-in-Ok-clause-used : goal.returns-in-Ok-clause-used
returns-in-Ok-clause-used c =
    let free = free_without_fault _ _ _ _ _ _ _ (sym c.statement_fault.ensures ∙ c.in_default.is) in
    let bytes = emitted-free _ _ _ _ _ free in
    let n = c.width_of-width.ensures in
    c.in-Ok.ensures ∙ ap (λ xs. c.args.used.now ++ xs) (ap (range_with_len c.args.address) n ∙ sym bytes)
