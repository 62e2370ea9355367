use Rattle.std.proofs.Common.{◌∙◌, ap}
use Rattle.net_fields.specs.Spelling.{spelt}
use Rattle.pipe_fields.specs.Layout.{fields_of}
use Rattle.verdict_text.proofs.Few.{spelt_few, stage_text}
use Rattle.verdict_text.specs.PipeLines.{kind_word, line_numbers}
use Rattle.verdict_text.proofs.pipe.put_stage.Goals as goal

pub returns : goal.returns
returns c =
    let kind = spelt c.args.bits.now c.args.kind.first c.args.kind.bits in
    let word = c.word_of.ensures ∙ ap kind_word (c.number_at.ensures ∙ spelt_few c.args.bits.now c.args.kind.first c.args.kind.bits c.requires.kind) in
    rw (
      c.line_fields.ensures.shown c.args.bits.now,
      word,
      c.in_ok-put.ensures,
      stage_text c.args.out.now.items c.args.letter.now (kind_word kind) (line_numbers c.args.line (fields_of c.args.bits.now)),
    ) at c.put_line.ensures
