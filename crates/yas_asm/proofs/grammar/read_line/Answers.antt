use Rattle.std.proofs.Common.{sym, ◌∙◌}
use Rattle.yas_asm.proofs.SoundGrammar.{line_sound}
use Rattle.yas_asm.proofs.grammar.read_line.Goals as goal

pub returns-clause-sound : goal.returns-clause-sound
returns-clause-sound c = line_sound c.args.variant c.args.bytes.now c.in-Some.parsed (sym c.line.ensures ∙ c.in-Some.is)
