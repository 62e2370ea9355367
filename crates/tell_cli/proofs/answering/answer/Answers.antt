use Rattle.std.proofs.Common.{subst, sym}
use Rattle.tell_cli.specs.Statuses.{IsFaulty}
use Rattle.tell_words.specs.declared.arguments.Call.{Call}
use Rattle.tell_cli.proofs.answering.answer.Goals as goal

pub returns-in-Err-clause-stops : goal.returns-in-Err-clause-stops
returns-in-Err-clause-stops g c = λ five. subst (λ (call : Call). IsFaulty (g.F.Files.told c.args.files.now) call) (sym c.in-Check.is) (c.in-Err.ensures.faulty five)

pub returns-in-Err-tell_run-clause-stops : goal.returns-in-Err-tell_run-clause-stops
returns-in-Err-tell_run-clause-stops g c = λ five. subst (λ (call : Call). IsFaulty (g.F.Files.told c.args.files.now) call) (sym c.in-Run.is) (c.in-Err-tell_run.ensures.faulty five)
