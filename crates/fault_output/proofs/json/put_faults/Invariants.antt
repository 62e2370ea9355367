use Rattle.std.proofs.Common.{◌≡◌, ◌++◌, true, drop, codes}
use Rattle.fault_output.specs.Json.{faults_text}
use Rattle.fault_output.proofs.json.put_faults.Given as goal

abbrev pub invariant-loop-fault : goal.invariant-loop-fault
invariant-loop-fault l = l.out.items ++ faults_text l.is_first (drop l.fault-index l.faults) ≡ (l.fn.out.items ++ codes "\"faults\": [") ++ faults_text true l.faults
