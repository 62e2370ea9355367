use Rattle.std.proofs.Common.{◌≡◌, ℕ, ◌-◌, ◌^◌, ◌∙◌, min, sym, ap, arith}
use Rattle.std.specs.List.{range_with_len}
use Rattle.prog_gen.specs.Choices.{chosen}
use Rattle.prog_gen.proofs.Chosen.{shift_small}
use Rattle.prog_gen.proofs.Spanned.{spanned, chosen_some, chosen_none, small}
use Rattle.prog_gen.proofs.spans.Span.chosen.Goals as goal

pub returns-then-self-end : goal.returns-then-self-end
returns-then-self-end c may h =
    let first : ℕ = c.args.self.first in
    let end : ℕ = c.args.self.end in
    let top : c.min-end.result ≡ min end (2 ^ c.args.bits) = omega (arith, c.min-end.ensures, shift_small c.args.bits c.requires) in
    sym (ap (λ xs. chosen xs c.args.position) (spanned may first end (2 ^ c.args.bits) (λ n lt. h n (omega (arith, lt, small c.args.bits c.requires))))
    ∙ (ap (λ (m : ℕ). chosen (range_with_len first (m - first)) c.args.position) (sym top)
    ∙ chosen_some first (c.min-end.result - first) c.args.position (omega arith)))

pub returns-else-self-end : goal.returns-else-self-end
returns-else-self-end c may h =
    let first : ℕ = c.args.self.first in
    let end : ℕ = c.args.self.end in
    let top : c.min-end.result ≡ min end (2 ^ c.args.bits) = omega (arith, c.min-end.ensures, shift_small c.args.bits c.requires) in
    sym (ap (λ xs. chosen xs c.args.position) (spanned may first end (2 ^ c.args.bits) (λ n lt. h n (omega (arith, lt, small c.args.bits c.requires))))
    ∙ (ap (λ (m : ℕ). chosen (range_with_len first (m - first)) c.args.position) (sym top)
    ∙ chosen_none first (c.min-end.result - first) c.args.position (omega arith)))
