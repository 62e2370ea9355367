-- What a legal flow says about the older of two good instructions.
use Rattle.std.proofs.Common.{◌≡◌, Bool, true, false, not, ◌&&◌, refl, arith}
use Rattle.y86_base.proofs.Booleans.{and_second, and_first}
use Rattle.pipe_motion.specs.Flow.{Flow, flow_legal, path, empty_flow, no_good_behind_wrong, youngest_stops_alone, wrong_has_reason, missed_jump_is_youngest, ret_is_youngest}
use Rattle.pipe_obligations.specs.FlowLaws.{OlderGoesOn, OlderIsResolved}

-- each of five truths that hold together
record Five (a b c d e : Bool) : Type 0 where
  first : a ≡ true
  second : b ≡ true
  fourth : d ≡ true
  fifth : e ≡ true

five : (a b c d e : Bool) → (a && (b && (c && (d && e)))) ≡ true → Five a b c d e
five a b c d e h = record { first = grind (arith, h); second = grind (arith, h); fourth = grind (arith, h); fifth = grind (arith, h) }

parts : (je rm : Bool) (v : Flow) → flow_legal je rm v ≡ true → Five (no_good_behind_wrong v) (youngest_stops_alone v) (wrong_has_reason v) (missed_jump_is_youngest je v) (ret_is_youngest rm v)
unfolding flow_legal
parts je rm v h = five _ _ _ _ _ h

-- a truth that excludes another is false where the other holds
apart : (x b : Bool) → not (x && b) ≡ true → b ≡ true → x ≡ false
apart x b h k = grind (arith, h, k)

pub older_goes_on : (je rm : Bool) (v : Flow) → flow_legal je rm v ≡ true → OlderGoesOn v
older_goes_on je rm v h =
    let p = (parts je rm v h).second in
    let q = and_second _ _ p in
    record { in_e = apart _ _ (and_first _ _ p); in_m = apart _ _ (and_first _ _ q); in_w = apart _ _ (and_second _ _ q) }

pub older_has_turned : (je rm : Bool) (v : Flow) → flow_legal je rm v ≡ true → OlderIsResolved v
older_has_turned je rm v h =
    let p = parts je rm v h in
    record { no_missed = apart _ _ (and_first _ _ p.fourth); no_ret_in_e = apart _ _ (and_first _ _ p.fifth); no_ret_in_m = apart _ _ (and_first _ _ (and_second _ _ p.fifth)) }

pub none_behind_wrong : (je rm : Bool) (v : Flow) → flow_legal je rm v ≡ true → v.e.wrong ≡ true → v.d.good ≡ false
none_behind_wrong je rm v h w = behind _ _ (parts je rm v h).first w
  where
    behind : (x b : Bool) → not (x && b) ≡ true → x ≡ true → b ≡ false
    behind x b h k = grind (arith, h, k)

pub empty_is_lawful : (je rm : Bool) → flow_legal je rm empty_flow ≡ true
unfolding flow_legal
empty_is_lawful true true = refl
empty_is_lawful true false = refl
empty_is_lawful false true = refl
empty_is_lawful false false = refl

pub empty_on_path : path empty_flow ≡ true
unfolding path
empty_on_path = refl
