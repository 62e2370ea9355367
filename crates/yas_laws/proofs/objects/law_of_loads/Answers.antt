use Rattle.yas_laws.proofs.LoadedText.{accepts_good_lines, refuses_first_fault, has_its_size, last_line_wins, is_zero_without_line}
use Rattle.yas_laws.proofs.objects.law_of_loads.Goals as goal

pub returns-clause-accepted : goal.returns-clause-accepted
returns-clause-accepted c = accepts_good_lines

pub returns-clause-refused : goal.returns-clause-refused
returns-clause-refused c = refuses_first_fault

pub returns-clause-size : goal.returns-clause-size
returns-clause-size c = has_its_size

pub returns-clause-last_line : goal.returns-clause-last_line
returns-clause-last_line c = last_line_wins

pub returns-clause-zeros : goal.returns-clause-zeros
returns-clause-zeros c = is_zero_without_line
