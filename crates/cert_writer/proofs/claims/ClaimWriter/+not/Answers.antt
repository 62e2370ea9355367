use Rattle.std.proofs.Common.{true, false, sym, ap, ◌∙◌, arith}
use Rattle.cert_writer.proofs.Steps.{not_open, not_call, not_next, not_cases_next}
use Rattle.cert_checker.specs.Rules as spec
use Rattle.cert_writer.proofs.claims.ClaimWriter.+not.Goals as goal

pub not-requires : goal.not-requires
not-requires t c =
    let large = not_open c.args.self.now.ranks c.args.self.now.terms c.requires.ordered c.args.a c.args.c c.requires.is (sym c.if-is_plain_not.ensures) in
    let x =
    not_call c.args.self.now c.args.a c.args.c false c.part_of.result c.part_of-else-is_plain_not.result c.requires.ranks c.requires.ordered c.requires.is large
    (c.part_of.ensures ∙ ap (λ v. spec.part c.args.self.now.terms v false c.args.a) c.variable-var.ensures)
    (c.part_of-else-is_plain_not.ensures ∙ ap (λ v. spec.part c.args.self.now.terms v false c.args.c) c.variable-var.ensures) in
    (omega (arith, c.decreases, x.0), x.1)

pub not-requires-else-is_plain_not : goal.not-requires-else-is_plain_not
not-requires-else-is_plain_not t c =
    let large = not_open c.args.self.now.ranks c.args.self.now.terms c.requires.ordered c.args.a c.args.c c.requires.is (sym c.if-is_plain_not.ensures) in
    let x =
    not_next c.args.self.now c.not.new.self c.args.a c.args.c c.variable-var.result true c.part_of-else-is_plain_not-2.result c.part_of-else-is_plain_not-3.result
    c.in_ok-low.ensures.kept c.requires.ranks c.requires.ordered c.requires.is large c.variable-var.ensures c.part_of-else-is_plain_not-2.ensures c.part_of-else-is_plain_not-3.ensures in
    (omega (arith, c.decreases, x.0), x.1)

pub push-requires-else-is_plain_not : goal.push-requires-else-is_plain_not
push-requires-else-is_plain_not t c =
    let large = not_open c.args.self.now.ranks c.args.self.now.terms c.requires.ordered c.args.a c.args.c c.requires.is (sym c.if-is_plain_not.ensures) in
    not_cases_next c.args.self.now c.not.new.self c.not-else-is_plain_not.new.self c.args.a c.args.c c.variable-var.result c.in_ok-low.low c.in_ok-high.high
    c.part_of.result c.part_of-else-is_plain_not.result c.part_of-else-is_plain_not-2.result c.part_of-else-is_plain_not-3.result
    c.requires.ordered c.in_ok-low.ensures.kept c.in_ok-high.ensures.kept c.requires.is large c.variable-var.ensures
    c.part_of.ensures c.part_of-else-is_plain_not.ensures c.part_of-else-is_plain_not-2.ensures c.part_of-else-is_plain_not-3.ensures
    c.in_ok-low.ensures.claim c.in_ok-high.ensures.claim
