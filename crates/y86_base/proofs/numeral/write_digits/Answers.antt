use Rattle.std.proofs.Common.{refl, ◌∷◌, ap, sym, ◌∙◌, ◌-◌, ◌/◌, false, drop, arith}
use Rattle.std.proofs.Math.ListN.{drop_of_length-le, length-set}
use Rattle.std.proofs.lemmas.List.{take-set}
use Rattle.std.specs.Fmt.{digits_onto}
use Rattle.y86_base.proofs.Digits.{digits_onto-nothing, digits_onto-more, placed, shorter_front}
use Rattle.y86_base.proofs.numeral.write_digits.Goals as goal

pub loop-at-init : goal.loop-at-init
loop-at-init c = (
  omega arith,
  c.told-bytes,
  ap (digits_onto 64 c.args.base false c.args.n) (drop_of_length-le c.args.bytes.now {i = 64} (omega (arith, c.told-bytes))) ∙ digits_onto-nothing _ _,
  refl,
)

pub loop-at-preserved : goal.loop-at-preserved
loop-at-preserved c =
    let l = c.loop-at in
    let a = c.args in
    let written = placed l.bytes l.at c.digit.result c.loop-at-test.true (omega arith) in (
      omega arith,
      length-set l.bytes (l.at - 1) c.digit.result ∙ l.invariant.1,
      ap (digits_onto (l.at - 1) a.base false (l.left / a.base)) (written ∙ ap (λ d. d ∷ drop l.at l.bytes) c.digit.ensures)
          ∙ sym (digits_onto-more a.base l.left (drop l.at l.bytes) l.at c.loop-at-test.true c.if-left-eq0.false) ∙ l.invariant.2,
      take-set l.bytes (l.at - 1) c.digit.result ∙ shorter_front l.bytes a.bytes.now l.at l.invariant.3,
    )

pub returns-then-left-eq0-clause-before : goal.returns-then-left-eq0-clause-before
returns-then-left-eq0-clause-before c =
    let l = c.loop-at in
    take-set l.bytes (l.at - 1) c.digit.result ∙ shorter_front l.bytes c.args.bytes.now l.at l.invariant.3
