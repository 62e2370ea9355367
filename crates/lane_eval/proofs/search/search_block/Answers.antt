use Rattle.std.proofs.Common.{◌-◌, ◌∙◌, ℕ, List, ap, subst}
use Rattle.pipe_fields.specs.Layout.{bit_count}
use Rattle.nets.specs.Nets.{truths}
use Rattle.ctl_rules.specs.declared.rules.Rule.{Rule}
use Rattle.ctl_rules.specs.declared.rules.Rules.{Rules}
use Rattle.prog_gen.specs.Choices.{valuation}
use Rattle.lane_eval.specs.Search.{IsFirstFalse, holds_drawn, holds_in}
use Rattle.lane_eval.proofs.Earliest.{found_same}
use Rattle.lane_eval.proofs.Steps.{place_truth}
use Rattle.lane_eval.proofs.search.search_block.Goals as goal

pub returns-clause-found : goal.returns-clause-found
returns-clause-found c =
    let r : Rules = c.args.r.now in
    let s : List (List ℕ) = c.run.new.self in
    found_same (holds_in s) (holds_drawn r c.args.seed) r.list 512
    (λ i j x h at.
    place_truth r.net i x.gate s (valuation r.variant (r.net.vars - bit_count) c.args.seed i) (c.requires.gates j x at) c.run.ensures.has_truth
    (c.run.ensures.truths i h
    ∙ ap (truths r.net) (c.draw_block.ensures i h ∙ ap (λ (n : ℕ). valuation r.variant (n - bit_count) c.args.seed i) c.requires.bits)))
    c.first_of.result
    (subst (λ (list : List Rule). IsFirstFalse (holds_in s) list 512 c.first_of.result) c.items.ensures c.first_of.ensures)
