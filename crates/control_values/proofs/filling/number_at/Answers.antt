use Rattle.std.proofs.Common.{◌≡◌, ◌+◌, true, false, Bool, get_or, refl, ap, ◌∙◌}
use Rattle.std.specs.Int.{from_bool}
use Rattle.net_fields.specs.Spelling.{bit}
use Rattle.net_fields.proofs.Loops.{number_more, number_small}
use Rattle.control_values.proofs.filling.number_at.Goals as goal

number_of_bit : (b : Bool) → from_bool b ≡ bit b
number_of_bit true = refl
number_of_bit false = refl

pub loop-k-preserved : goal.loop-k-preserved
loop-k-preserved c =
    let b = get_or c.args.bits.now (c.args.first + c.loop-k.k) false in
    let is : c.from.result ≡ bit b = c.from.ensures ∙ (ap from_bool c.bit_at.ensures ∙ number_of_bit b) in
    record {
      spells = number_more c.args.bits.now c.args.first c.loop-k.k c.loop-k.n c.from.result c.loop-k.invariant.spells is;
      small = number_small c.loop-k.k c.loop-k.n c.from.result b c.loop-k.invariant.small is;
    }
