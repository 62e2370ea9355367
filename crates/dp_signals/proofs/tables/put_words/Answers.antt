use Rattle.std.proofs.Common.{◌++◌, ◌∙◌, ap, map, take, drop, slice_set, length-set}
use Rattle.dp_signals.specs.Lines.{word_in}
use Rattle.dp_signals.proofs.Assumed.{words_put}
use Rattle.dp_signals.proofs.tables.put_words.Goals as goal

pub loop-row-preserved : goal.loop-row-preserved
loop-row-preserved c =
    let row = c.loop-row.row in
    let put = map word_in (take row c.args.lines.now) ++ drop row c.args.values.now in
    record {
      size = length-set c.loop-row.values row c.word.result ∙ c.loop-row.invariant.size;
      put = ap (λ ys. slice_set ys row c.word.result) c.loop-row.invariant.put ∙ ap (λ w. slice_set put row w) c.word.ensures
          ∙ words_put word_in c.args.lines.now c.args.values.now row _ c.loop-row-test.true c.requires;
    }
