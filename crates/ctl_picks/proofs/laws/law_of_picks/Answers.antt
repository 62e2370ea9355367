use Rattle.ctl_picks.proofs.OneGate.{one_gate}
use Rattle.ctl_picks.proofs.laws.law_of_picks.Goals as goal

pub returns : goal.returns
returns c = one_gate
