use Rattle.std.proofs.Common.{ℕ, List, subst}
use Rattle.program_check.specs.Near.{IsWatched}
use Rattle.y86_base.specs.Image.{IsImage, IsSize}
use Rattle.run_report.proofs.Covered.{covers}
use Rattle.run_report.proofs.outcome.run_outcome.Goals as goal

pub returns-clause-covered : goal.returns-clause-covered
returns-clause-covered c =
    let a = c.args in
    let r = a.request in
    let good : IsImage a.image = record { sized = subst IsSize c.size-size.ensures.size c.size-size.ensures.legal; bytes = c.size-size.ensures.bytes } in
    let watched : IsWatched r.variant a.image r.limit c.watch-watched.result =
    subst (λ (x : List ℕ). IsWatched r.variant x r.limit c.watch-watched.result) c.in-Ok.ensures c.watch-watched.ensures in
    covers r.variant r.ordered.design.terms r.ordered.order.ids a.image r.limit c.in_ok-compared.compared good c.in_ok-compared.ensures c.in_ok-judged.judged c.watch-watched.result
    c.in_ok-judged.ensures.judged watched
