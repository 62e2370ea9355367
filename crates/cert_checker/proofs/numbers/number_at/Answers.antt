use Rattle.std.proofs.Common.{◌∙◌, ◌<◌, sym, length, arith}
use Rattle.std.proofs.lemmas.Bool.{both_ways, eqb-true}
use Rattle.std.proofs.lemmas.List.{take_rest}
use Rattle.cert_checker.proofs.Decimals.{begins_digit, some_from, read_found, read_only, zero_found, zero_only}
use Rattle.cert_checker.proofs.numbers.number_at.Goals as goal

pub returns-then-is_empty-clause-only : goal.returns-then-is_empty-clause-only
returns-then-is_empty-clause-only c =
    λ n rest small stops whole. (let b = (begins_digit c.args.bytes.now n rest small whole).0 in let e = eqb-true (length c.args.bytes.now) 0 (sym c.is_empty.ensures ∙ c.if-is_empty.true) in omega (arith, b, e))

pub returns-then-not-is_decimal-clause-only : goal.returns-then-not-is_decimal-clause-only
returns-then-not-is_decimal-clause-only c =
    λ n rest small stops whole. both_ways _ (sym c.is_decimal.ensures ∙ c.if-not-is_decimal.true) (begins_digit c.args.bytes.now n rest small whole).1

pub returns-then-bytes-eq48-clause-found : goal.returns-then-bytes-eq48-clause-found
returns-then-bytes-eq48-clause-found c =
    zero_found c.args.bytes.now _ (some_from _ (sym c.is_empty.ensures ∙ c.if-is_empty.false)) c.if-bytes-eq48.true (take_rest c.args.bytes.now 1)

pub returns-then-bytes-eq48-clause-only : goal.returns-then-bytes-eq48-clause-only
returns-then-bytes-eq48-clause-only c =
    λ n rest small stops whole. (let z = zero_only c.args.bytes.now n rest small whole c.if-bytes-eq48.true in (sym z.0, take_rest c.args.bytes.now 1 ∙ z.1))

pub returns-clause-found : goal.returns-clause-found
returns-clause-found c =
    let some : 0 < length c.args.bytes.now = some_from _ (sym c.is_empty.ensures ∙ c.if-is_empty.false) in
    read_found c.args.bytes.now c.digits_at.result some (sym c.is_decimal.ensures ∙ c.if-not-is_decimal.false) c.if-bytes-eq48.false c.digits_at.ensures

pub returns-clause-only : goal.returns-clause-only
returns-clause-only c = read_only c.args.bytes.now c.digits_at.result c.digits_at.ensures
