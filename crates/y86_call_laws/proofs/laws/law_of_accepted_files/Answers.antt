use Rattle.y86_call_laws.proofs.Agreement.{accepting_plus_words, accepting_words, accepting_seq_words, agreeing_words}
use Rattle.y86_call_laws.proofs.Certified.{breaking_words, certifying_words, never_one_words, rechecking_words}
use Rattle.y86_call_laws.proofs.laws.law_of_accepted_files.Goals as goal

pub returns-clause-check_seq : goal.returns-clause-check_seq
returns-clause-check_seq c = accepting_seq_words

pub returns-clause-check_plus : goal.returns-clause-check_plus
returns-clause-check_plus c = accepting_plus_words

pub returns-clause-check_pipe : goal.returns-clause-check_pipe
returns-clause-check_pipe c = accepting_words

pub returns-clause-certify_pipe : goal.returns-clause-certify_pipe
returns-clause-certify_pipe c = certifying_words

pub returns-clause-recheck : goal.returns-clause-recheck
returns-clause-recheck c = rechecking_words

pub returns-clause-recheck_part : goal.returns-clause-recheck_part
returns-clause-recheck_part c = breaking_words

pub returns-clause-recheck_never_one : goal.returns-clause-recheck_never_one
returns-clause-recheck_never_one c = never_one_words

pub returns-clause-psim : goal.returns-clause-psim
returns-clause-psim c = agreeing_words
