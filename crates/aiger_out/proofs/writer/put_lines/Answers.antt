use Rattle.aiger_out.specs.WrittenLines.{numbers_of}
use Rattle.std.proofs.Common.{length}
use Rattle.aiger_out.proofs.WrittenText.{all_put}
use Rattle.aiger_out.proofs.writer.put_lines.Goals as goal

pub returns : goal.returns
returns c = (
  c.in_ok-h.ensures,
  all_put c.in_ok-h.h c.args.inputs (length c.args.rules.now) c.args.outs.now c.args.ands.now (numbers_of c.args.rules.now)
      c.args.out.now.items c.put_header.new.out.items c.put_inputs.new.out.items c.put_outputs.new.out.items c.put_ands.new.out.items c.put_input_symbols.new.out.items
      c.put_output_symbols.new.out.items c.in_ok-h.ensures c.requires c.in_ok-put_header.ensures c.in_ok-put_inputs.ensures c.in_ok-put_outputs.ensures c.in_ok-put_ands.ensures
      c.in_ok-put_input_symbols.ensures c.in_ok-put_output_symbols.ensures,
)
