use Rattle.std.proofs.Common.{◌≡◌, ◌∙◌, ◌<◌, ◌≤◌, ◌+◌, ◌-◌, ◌++◌, [], ℕ, List, Bool, sym, ap, arith, length, get_or, take, drop, None}
use Rattle.std.proofs.lemmas.List.{take-append-drop}
use Rattle.net_fields.specs.FieldSpecs.{total, pattern}
use Rattle.net_fields.specs.declared.field_specs.FieldSpec.{FieldSpec}
use Rattle.pipe_fields.specs.Layout.{field_specs, bit_count, field_count}
use Rattle.prog_gen.specs.Choices.{width, numbers_drawn, chosen, choices}
use Rattle.prog_gen.proofs.Fields.{width_small, total_more, total_within, number_more, word_more, bits_more, field_behind, all_numbers, all_words}
use Rattle.prog_gen.proofs.valuations.draw_fields.Goals as goal

-- the number of bits of the field at a place, and that it ends within the fields' bits
abbrev none : FieldSpec
none = record { bits = 0; name = None }

read : (ss : List FieldSpec) (j : ℕ) → ss ≡ field_specs → (get_or ss j (record { bits = 0; name = None })).bits ≡ width j
read ss j e = ap (λ (xs : List FieldSpec). (get_or xs j (record { bits = 0; name = None })).bits) e

ends : (first j : ℕ) → first ≡ total (take j field_specs) → j < field_count → first + width j ≤ bit_count
ends first j e h = omega (arith, e, total_more field_specs j (record { bits = 0; name = None }) h, total_within field_specs (j + 1))

pub choice-n-requires-clause-few : goal.choice-n-requires-clause-few
choice-n-requires-clause-few c = omega (arith, read c.field_specs-fields.result.now c.loop-j.j c.field_specs-fields.ensures, width_small c.loop-j.j)

pub put_bits-requires-clause-room : goal.put_bits-requires-clause-room
put_bits-requires-clause-room c =
    omega (arith, read c.field_specs-fields.result.now c.loop-j.j c.field_specs-fields.ensures, ends c.loop-j.first c.loop-j.j c.loop-j.invariant.place c.loop-j-test.true, c.requires)

pub put_bits-requires-clause-small : goal.put_bits-requires-clause-small
put_bits-requires-clause-small c =
    omega (arith, read c.field_specs-fields.result.now c.loop-j.j c.field_specs-fields.ensures, ends c.loop-j.first c.loop-j.j c.loop-j.invariant.place c.loop-j-test.true)

pub overflow_add-first : goal.overflow_add-first
overflow_add-first c =
    record { fits = omega (arith, read c.field_specs-fields.result.now c.loop-j.j c.field_specs-fields.ensures, ends c.loop-j.first c.loop-j.j c.loop-j.invariant.place c.loop-j-test.true) }

pub loop-j-preserved : goal.loop-j-preserved
loop-j-preserved c =
    let j : ℕ = c.loop-j.j in
    let first : ℕ = c.loop-j.first in
    let out : List Bool = c.loop-j.out in
    let k : ℕ = (get_or c.field_specs-fields.result.now j (record { bits = 0; name = None })).bits in
    let is : k ≡ width j = read c.field_specs-fields.result.now j c.field_specs-fields.ensures in
    let room : first + k ≤ bit_count = omega (arith, is, ends first j c.loop-j.invariant.place c.loop-j-test.true) in
    let small : first + k ≤ length out = omega (arith, room, c.requires) in
    record {
      numbers = number_more c.args.v c.loop-j.numbers j c.loop-j.draws c.draw.new.self c.choice-n.result c.loop-j-test.true (omega arith) c.draw.ensures.after
          (c.choice-n.ensures
          ∙ (ap (λ (m : ℕ). chosen (choices c.args.v (take m c.loop-j.numbers)) c.draw.result) (omega arith) ∙ ap (chosen (choices c.args.v (take j c.loop-j.numbers))) c.draw.ensures.number))
          ∙ c.loop-j.invariant.numbers;
      word = word_more j c.loop-j.draws c.draw.new.self c.loop-j-test.true c.draw.ensures.after ∙ c.loop-j.invariant.word;
      place = omega (arith, is, c.loop-j.invariant.place, total_more field_specs j (record { bits = 0; name = None }) c.loop-j-test.true);
      bits = ap (take (first + k)) c.put_bits.ensures ∙ bits_more out field_specs c.loop-j.numbers j first k c.choice-n.result c.loop-j-test.true (omega arith) is small c.loop-j.invariant.bits;
      behind = ap (drop bit_count) c.put_bits.ensures ∙ (field_behind out first k c.choice-n.result bit_count room small ∙ c.loop-j.invariant.behind);
    }

pub returns-clause-after : goal.returns-clause-after
returns-clause-after c = all_words c.loop-j.j c.loop-j.draws _ (omega arith) c.loop-j.invariant.word

pub returns-clause-bits : goal.returns-clause-bits
returns-clause-bits c =
    let out : List Bool = c.loop-j.out in
    let e : c.loop-j.j ≡ field_count = omega arith in
    let all : c.loop-j.first ≡ bit_count = c.loop-j.invariant.place ∙ ap (λ (m : ℕ). total (take m field_specs)) e in
    let numbers : take c.loop-j.j c.loop-j.numbers ≡ numbers_drawn c.args.v field_count [] c.args.draws.now =
    all_numbers c.args.v c.loop-j.j c.loop-j.draws (take c.loop-j.j c.loop-j.numbers) _ c.loop-j-test.false c.loop-j.invariant.numbers in
    sym (take-append-drop bit_count out)
    ∙ (ap (λ (xs : List Bool). take bit_count out ++ xs) c.loop-j.invariant.behind
    ∙ ap (λ (xs : List Bool). xs ++ drop bit_count c.args.out.now)
    (ap (λ (m : ℕ). take m out) (sym all)
    ∙ (c.loop-j.invariant.bits
    ∙ (ap (λ (m : ℕ). pattern (take m field_specs) (take c.loop-j.j c.loop-j.numbers) []) e ∙ ap (λ (xs : List ℕ). pattern field_specs xs []) numbers))))
