use Rattle.std.proofs.Common.{ap, ◌∙◌, arith, length, refl, sym}
use Rattle.std.proofs.lemmas.Bool.{ltb-true}
use Rattle.std.proofs.lemmas.Option.{slice_get_read}
use Rattle.hcl_compile.specs.declared.node.Ask.TheVariants.{Code}
use Rattle.hcl_compile.proofs.Made.{past_node}
use Rattle.hcl_compile.proofs.decisions.past.Goals as goal

pub returns-then-other-name : goal.returns-then-other-name
returns-then-other-name c =
    past_node c.args.d.now c.args.name c.args.answer c.args.target c.in-Some.node.now (omega (arith, c.if-target-ge-ROWS.false))
    (rw c.as_slice.ensures.value at
    (slice_get_read c.as_slice.result.now (length c.as_slice.result.now) c.args.target c.in-Some.node.now refl
    (ltb-true c.args.target (length c.as_slice.result.now) (sym c.in-Some.ensures.lookup.0)) c.in-Some.ensures.lookup.1))
    (c.in-Code.is ∙ ap Code c.if-other-name.true)
