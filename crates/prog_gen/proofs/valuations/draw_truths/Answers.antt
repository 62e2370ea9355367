use Rattle.std.proofs.Common.{◌∙◌, ◌%◌, ◌==◌, sym, ap, arith, length}
use Rattle.prog_gen.proofs.Fields.{truth_more, truths_end}
use Rattle.prog_gen.proofs.valuations.draw_truths.Goals as goal

pub loop-k-preserved : goal.loop-k-preserved
loop-k-preserved c = record {
  rest = truth_more c.loop-k.out c.loop-k.k (length c.args.out.now) c.loop-k.draws c.draw.new.self _ (omega arith) (omega arith) c.draw.ensures.after (ap (λ n. n % 2 == 1) c.draw.ensures.number)
      ∙ c.loop-k.invariant.rest;
}

pub returns : goal.returns
returns c = sym (truths_end c.loop-k.out c.loop-k.k (length c.args.out.now) c.loop-k.draws (omega arith) (omega arith)) ∙ c.loop-k.invariant.rest
