use Rattle.yas_laws.proofs.FaultLemmas.{accepted_without_fault, first_fault_is_told}
use Rattle.yas_laws.proofs.ReasonLemmas.{least_reason_is_told}
use Rattle.yas_laws.proofs.sources.law_of_faults.Goals as goal

pub returns : goal.returns
returns c = record { accepted = accepted_without_fault; first = first_fault_is_told; least = least_reason_is_told }
