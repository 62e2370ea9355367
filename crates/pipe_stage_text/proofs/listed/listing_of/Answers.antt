use Rattle.pipe_stage_text.specs.Listed.{text_in}
use Rattle.pipe_stage_text.proofs.Listings.{none_in, over_begins, over_ends, over_more}
use Rattle.pipe_stage_text.proofs.listed.listing_of.Goals as goal

pub loop-line-init : goal.loop-line-init
loop-line-init c =
    over_begins _ (text_in c.new-listing.result.entries) (none_in c.new-listing.result.entries c.new-listing.ensures.empty)

pub loop-line-preserved : goal.loop-line-preserved
loop-line-preserved c = over_more _ _ _ _ _ _ c.in-Some.ensures.lines c.in-Ok.ensures c.loop-line.invariant

pub returns : goal.returns
returns c = over_ends _ _ _ c.in_default.ensures.lines c.loop-line.invariant
