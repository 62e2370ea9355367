use Rattle.hcl_faults.proofs.ItemLemmas.{bound_alone, fault_alone}
use Rattle.hcl_faults.proofs.binding.only_fault.Goals as goal

pub returns-in-Ok : goal.returns-in-Ok
returns-in-Ok c = λ i one. bound_alone c.args.table.now.rows c.args.file.now.items c.in-Ok.field-0.terms c.in-Ok.ensures.design i one

pub returns : goal.returns
returns c = λ i one. fault_alone c.args.table.now.rows c.args.file.now.items c.in-Err.fault c.own_fault.result c.requires c.in-Err.ensures.fault c.own_fault.ensures i one
