use Rattle.std.proofs.Common.{length}
use Rattle.pipe_stage_text.specs.Listed.{listed, text_in}
use Rattle.pipe_stage_text.proofs.Listings.{Over}
use Rattle.pipe_stage_text.proofs.listed.listing_of.Given as goal

abbrev pub invariant-loop-line : goal.invariant-loop-line
invariant-loop-line l = Over l.rest (text_in l.listing.entries) (listed l.object)

abbrev pub decreases-loop-line : goal.decreases-loop-line
decreases-loop-line l = length l.rest
