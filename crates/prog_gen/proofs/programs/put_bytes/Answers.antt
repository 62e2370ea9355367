use Rattle.std.proofs.Common.{◌+◌, ◌∙◌, sym, ap, arith, refl, add-zero, length, drop}
use Rattle.std.proofs.Math.Seq.{sets}
use Rattle.std.proofs.lemmas.List.{length-set}
use Rattle.prog_gen.proofs.Laid.{sets_more, sets_end, sets_start}
use Rattle.prog_gen.proofs.programs.put_bytes.Goals as goal

pub loop-i-preserved : goal.loop-i-preserved
loop-i-preserved c = record {
  within = omega arith;
  size = ap length c.put_byte.ensures.written ∙ (length-set c.loop-i.image _ _ ∙ c.loop-i.invariant.size);
  rest = ap (λ m. sets m (c.args.at + (c.loop-i.i + 1)) (drop (c.loop-i.i + 1) c.args.bytes.now)) c.put_byte.ensures.written
      ∙ (sets_more c.loop-i.image c.args.at c.loop-i.i c.args.bytes.now _ c.loop-i-test.true refl ∙ c.loop-i.invariant.rest);
}

pub returns : goal.returns
returns c =
    sym (sets_end c.loop-i.image c.args.at c.loop-i.i c.args.bytes.now c.loop-i-test.false)
    ∙ (c.loop-i.invariant.rest ∙ (ap (λ k. sets c.args.image.now k c.args.bytes.now) (add-zero c.args.at) ∙ sets_start c.args.image.now c.args.at c.args.bytes.now c.requires))
