use Rattle.yas_laws.proofs.LawLemmas.{labels_are_addresses, labels_are_of_lines}
use Rattle.yas_laws.proofs.sources.law_of_labels.Goals as goal

pub returns : goal.returns
returns c = record { addresses = labels_are_addresses; lines = labels_are_of_lines }
