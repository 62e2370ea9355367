use Rattle.std.proofs.Common.{length}
use Rattle.hcl_faults.proofs.Listing.{Listed}
use Rattle.hcl_faults.proofs.tokens.token_list.Given as goal

abbrev pub invariant-tokens : goal.invariant-tokens
invariant-tokens l = Listed l.text l.list.items l.rest

abbrev pub decreases-tokens : goal.decreases-tokens
decreases-tokens l = length l.rest
