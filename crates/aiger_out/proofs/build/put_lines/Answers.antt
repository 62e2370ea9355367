use Rattle.nets.proofs.Truths.{begins_self, begins_more}
use Rattle.aiger_out.specs.Rows.{row}
use Rattle.aiger_out.proofs.Built.{built_start, built_more}
use Rattle.aiger_out.proofs.build.put_lines.Goals as goal

pub loop-j-init : goal.loop-j-init
loop-j-init c = record {
  begins = begins_self c.args.b.now;
  built = built_start c.args.t.now.header (row c.args.t.now.rows.items) c.args.b.now c.args.gates.now c.args.none c.requires.has c.requires.start;
}

pub loop-j-preserved : goal.loop-j-preserved
loop-j-preserved c = record {
  begins = begins_more c.loop-j.invariant.begins c.in_ok-put_line.ensures.extends;
  built = built_more c.args.t.now.header (row c.args.t.now.rows.items) c.loop-j.j c.loop-j.b c.put_line.new.b c.loop-j.gates c.put_line.new.gates c.args.none
      c.loop-j.invariant.built c.in_ok-put_line.ensures.built;
}
