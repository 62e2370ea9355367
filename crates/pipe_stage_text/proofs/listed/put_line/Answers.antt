use Rattle.std.proofs.Common.{◌∙◌, sym, ap}
use Rattle.std.proofs.lemmas.Result.{on_ok_weaker}
use Rattle.pipe_stage_text.specs.Listed.{some_text, text_in}
use Rattle.pipe_stage_text.proofs.Listings.{changes_all, lists_no_text, lists_nothing, stays}
use Rattle.pipe_stage_text.proofs.listed.put_line.Goals as goal

pub returns-in_default : goal.returns-in_default
returns-in_default c = λ address. stays address _ _ (lists_nothing address _ (sym c.in_default.ensures))

pub returns-in_default-some_text : goal.returns-in_default-some_text
returns-in_default-some_text c =
    λ address. stays address _ _ (lists_no_text address _ (ap some_text (sym c.text_of.ensures) ∙ sym c.in_default-some_text.ensures))

pub returns : goal.returns
returns c =
    let shown = ap some_text (sym c.text_of.ensures) ∙ sym c.in-Some-some_text.ensures in
    on_ok_weaker c.put_text.result
    (changes_all (text_in c.args.listing.now.entries) (text_in c.put_text.new.listing.entries) _ _ _ (sym c.in-Some.ensures) shown)
    c.put_text.ensures
