use Rattle.aiger_out.proofs.WrittenText.{written_out}
use Rattle.aiger_out.proofs.writer.write_rules.Goals as goal

pub returns : goal.returns
returns c = (
  c.in_ok-put_lines.field-0,
  written_out c.args.net.now c.args.rules.now c.in_ok-put_lines.field-0 c.args.literals.now c.in_ok-outs.outs.items c.as_slice.result.now c.args.ands.now
      c.new-text.result.items c.put_lines.new.out.items c.vars.result c.requires c.in_ok-outs.ensures c.as_slice.ensures.value c.vars.ensures c.new-text.ensures.items
      c.in_ok-put_lines.ensures,
)
