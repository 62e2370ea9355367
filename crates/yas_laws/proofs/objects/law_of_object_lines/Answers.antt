use Rattle.yas_laws.proofs.Grammar.{reads_the_form, skips_the_rest}
use Rattle.yas_laws.proofs.objects.law_of_object_lines.Goals as goal

pub returns-clause-form : goal.returns-clause-form
returns-clause-form c = reads_the_form

pub returns-clause-skipped : goal.returns-clause-skipped
returns-clause-skipped c = skips_the_rest
