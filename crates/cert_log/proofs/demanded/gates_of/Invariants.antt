use Rattle.std.proofs.Common.{◌≡◌, map, take}
use Rattle.cert_log.specs.DesignDemands.{gate_of}
use Rattle.cert_log.proofs.demanded.gates_of.Given as goal

abbrev pub invariant-loop-k : goal.invariant-loop-k
invariant-loop-k l = l.gates.items ≡ map gate_of (take l.k l.list)
