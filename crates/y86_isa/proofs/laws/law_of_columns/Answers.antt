use Rattle.y86_isa.proofs.RowsAgree.{operands_agree, sources_agree, accesses_agree, fields_agree}
use Rattle.y86_isa.proofs.laws.law_of_columns.Goals as goal

pub returns-clause-operands : goal.returns-clause-operands
returns-clause-operands c = operands_agree

pub returns-clause-sources : goal.returns-clause-sources
returns-clause-sources c = sources_agree

pub returns-clause-accesses : goal.returns-clause-accesses
returns-clause-accesses c = accesses_agree

pub returns-clause-fields : goal.returns-clause-fields
returns-clause-fields c = fields_agree
