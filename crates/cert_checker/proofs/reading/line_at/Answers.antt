use Rattle.std.proofs.Common.{◌∙◌, ◌++◌, ℕ, take, sym, ap, subst, length}
use Rattle.std.proofs.lemmas.Bool.{eqb-true}
use Rattle.cert_checker.specs.declared.line.CertLine.{CertLine}
use Rattle.cert_checker.specs.Lines.{AreWords, IsLine, count, line_text, numbers_of, numbers_text}
use Rattle.cert_checker.proofs.Lines.{count_is, first_byte, kind_only, letter_only, line_found, line_only, no_line}
use Rattle.cert_checker.proofs.reading.line_at.Goals as goal

pub returns-then-is_empty-clause-only : goal.returns-then-is_empty-clause-only
returns-then-is_empty-clause-only c =
    λ line rest is whole. no_line c.args.bytes.now rest line (eqb-true (length c.args.bytes.now) 0 (sym c.is_empty.ensures ∙ c.if-is_empty.true)) whole

pub returns-in_default-clause-only : goal.returns-in_default-clause-only
returns-in_default-clause-only c =
    λ line rest is whole. letter_only c.args.bytes.now _ rest _ line c.in_default.ensures (first_byte c.args.bytes.now (sym c.is_empty.ensures ∙ c.if-is_empty.false)) whole

pub returns-in_default-numbers_at-clause-only : goal.returns-in_default-numbers_at-clause-only
returns-in_default-numbers_at-clause-only c =
    λ line rest is whole.
    let first = first_byte c.args.bytes.now (sym c.is_empty.ensures ∙ c.if-is_empty.false) in
    let k = kind_only c.args.bytes.now _ rest _ c.in-Some.kind line c.in-Some.ensures first whole in
    c.in_default-numbers_at.ensures.only (numbers_of line) rest (count_is line ∙ ap count (sym k.0) ∙ sym c.count.ensures.count) is k.1

pub returns-clause-found : goal.returns-clause-found
returns-clause-found c =
    let k = c.in-Some.kind in
    let n = c.in-Some-numbers_at.found.0 in
    let rest = c.in-Some-numbers_at.found.1.now in
    let first = first_byte c.args.bytes.now (sym c.is_empty.ensures ∙ c.if-is_empty.false) in
    let text = c.in-Some-numbers_at.ensures.found ∙ ap (λ (m : ℕ). numbers_text (take m n) ++ rest) c.count.ensures.count in
    let words = subst (λ (m : ℕ). AreWords (take m n)) c.count.ensures.count c.in-Some-numbers_at.ensures.words in
    let f = line_found c.args.bytes.now _ rest n _ k c.in-Some-numbers_at.ensures.six c.in-Some.ensures first text words in
    (subst IsLine (sym c.line_with.ensures) f.0, f.1 ∙ ap (λ (line : CertLine). line_text line ++ rest) (sym c.line_with.ensures))

pub returns-clause-only : goal.returns-clause-only
returns-clause-only c =
    λ line rest is whole.
    let first = first_byte c.args.bytes.now (sym c.is_empty.ensures ∙ c.if-is_empty.false) in
    let k = kind_only c.args.bytes.now _ rest _ c.in-Some.kind line c.in-Some.ensures first whole in
    let r = c.in-Some-numbers_at.ensures.only (numbers_of line) rest (count_is line ∙ ap count (sym k.0) ∙ sym c.count.ensures.count) is k.1 in
    let n = c.in-Some-numbers_at.found.0 in
    (c.line_with.ensures ∙ line_only c.in-Some.kind n line k.0 (ap (λ (m : ℕ). take m n) (sym c.count.ensures.count) ∙ r.0), r.1)
