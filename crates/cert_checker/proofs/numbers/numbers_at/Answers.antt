use Rattle.std.proofs.Common.{◌≡◌, ◌∙◌, ◌<◌, ◌++◌, ◌+◌, ℕ, take, drop, sym, ap, length, arith}
use Rattle.std.proofs.lemmas.List.{length-set}
use Rattle.y86_base.proofs.Runs.{after_byte_some}
use Rattle.cert_checker.specs.Lines.{numbers_text}
use Rattle.cert_checker.proofs.Fields.{behind_blank, found_all, found_more, next_is, no_blank, only_more, stops, word_at, words_more}
use Rattle.cert_checker.proofs.numbers.numbers_at.Goals as goal

pub returns-in_default-clause-only : goal.returns-in_default-clause-only
returns-in_default-clause-only c =
    λ ns rest size words whole. no_blank _ _ c.in_default.ensures (next_is ns rest c.loop-i.rest.now c.loop-i.i (omega arith) (c.loop-i.invariant.only ns rest size words whole).1)

pub returns-in_default-number_at-clause-only : goal.returns-in_default-number_at-clause-only
returns-in_default-number_at-clause-only c =
    λ ns rest size words whole.
    let i = c.loop-i.i in
    let inside : i < length ns = omega arith in
    let blank = next_is ns rest c.loop-i.rest.now i inside (c.loop-i.invariant.only ns rest size words whole).1 in
    c.in_default-number_at.ensures.only _ _ (word_at ns words i inside) (stops (drop (i + 1) ns) rest) (behind_blank _ _ _ c.in-Some.ensures blank)

pub loop-i-preserved : goal.loop-i-preserved
loop-i-preserved c =
    let i = c.loop-i.i in
    let numbers = c.loop-i.numbers in
    let n = c.in-Some-number_at.n in
    let within : i < length numbers = (let e = c.loop-i.invariant.size in omega arith) in
    record {
      size = length-set numbers i n ∙ c.loop-i.invariant.size;
      words = words_more numbers i n within c.loop-i.invariant.words c.in-Some-number_at.ensures.small;
      found = found_more c.args.bytes.now c.loop-i.rest.now c.in-Some.behind.now c.in-Some-number_at.more.now numbers i n within
          (after_byte_some 32 _ _ (sym c.in-Some.ensures)) c.in-Some-number_at.ensures.found c.loop-i.invariant.found;
      only = λ ns t size words whole.
          (let inside : i < length ns = omega arith in
          let before = c.loop-i.invariant.only ns t size words whole in
          let blank = next_is ns t c.loop-i.rest.now i inside before.1 in
          let read =
          c.in-Some-number_at.ensures.only _ _ (word_at ns words i inside) (stops (drop (i + 1) ns) t) (behind_blank _ _ _ c.in-Some.ensures blank) in
          (only_more numbers ns i n within inside before.0 read.0, read.1));
    }

pub returns-in-Some-after_byte-clause-found : goal.returns-in-Some-after_byte-clause-found
returns-in-Some-after_byte-clause-found c =
    let numbers = c.loop-i.numbers in
    let behind = c.in-Some-after_byte.behind.now in
    let last : c.loop-i.i ≡ c.args.count = omega arith in
    found_all c.args.bytes.now c.loop-i.rest.now behind numbers c.loop-i.i (after_byte_some 10 _ _ (sym c.in-Some-after_byte.ensures)) c.loop-i.invariant.found
    ∙ ap (λ (n : ℕ). numbers_text (take n numbers) ++ behind) last
