use Rattle.pipe_stage_text.proofs.Texts.{texts_differ}
use Rattle.pipe_stage_text.proofs.TextsOfRuns.{fetches_what_is_read, texts_are_of_runs}
use Rattle.pipe_stage_text.proofs.laws.law_of_texts.Goals as goal

pub returns-clause-differ : goal.returns-clause-differ
returns-clause-differ c = texts_differ

pub returns-clause-of_runs : goal.returns-clause-of_runs
returns-clause-of_runs c = texts_are_of_runs

pub returns-clause-fetched : goal.returns-clause-fetched
returns-clause-fetched c = fetches_what_is_read
