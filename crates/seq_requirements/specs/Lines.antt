-- Turns the code's line S into that of the definitions.
use Rattle.seq_obligations.specs.Fields.{Fields}
use Rattle.seq_requirements.specs.declared.lines.LineNow.{LineNow}

abbrev pub fields_in : LineNow → Fields
fields_in l = record { error = l.error; icode = l.icode; ifun = l.ifun; r_a = l.r_a; r_b = l.r_b; cnd = l.cnd; derror = l.derror }
