use Rattle.cli_checks.proofs.Checks.{said_no}
use Rattle.cli_checks.proofs.check.say_seq.Goals as goal

pub returns-in-Ok : goal.returns-in-Ok
returns-in-Ok g c =
    said_no c.args.which c.args.name.now c.args.variant c.args.bound.now.ordered.design.terms c.args.bound.now.ordered.order.ids c.in-Ok-Some.denial
    c.in-Ok.text.items _ _ _ c.requires.order
    (rw c.in-Ok-Some.field-0-is at c.in-Ok-Some.ensures.decided)
    c.in-Ok.ensures.text
    (rw c.as_slice.ensures.value at c.write_answer-in-Ok.ensures)
