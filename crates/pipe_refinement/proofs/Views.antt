-- The flow of a configuration, and its youngest good instruction.
use Rattle.std.proofs.Common.{◌≡◌, ◌+◌, Bool, true, false, ◌&&◌, refl, ap, arith}
use Rattle.std.proofs.lemmas.Bool.{and_left}
use Rattle.yis_run_laws.specs.Instructions.{stops_at}
use Rattle.pipe_refinement.specs.Invariant.{RunContext, run_flow}
use Rattle.pipe_refinement.specs.Kinds.{Schedule, count, in_d, in_e, in_f, in_m, in_w, is_good, is_wrong}
use Rattle.pipe_motion.specs.Flow.{Flow}

pub and_on : (a b : Bool) → a ≡ true → a && b ≡ b
and_on true b h = refl
and_on false b h = cc

-- a flow by its stage flows, so that the tests of a flow compute on truths
pub record Seen (x : RunContext) (c : Schedule) (y : Flow) : Type 0 where
  pub good_d : y.d.good ≡ is_good c.d
  pub good_e : y.e.good ≡ is_good c.e
  pub good_m : y.m.good ≡ is_good c.m
  pub good_w : y.w.good ≡ is_good c.w
  pub wrong_d : y.d.wrong ≡ is_wrong c.d
  pub wrong_e : y.e.wrong ≡ is_wrong c.e
  pub wrong_m : y.m.wrong ≡ is_wrong c.m
  pub wrong_w : y.w.wrong ≡ is_wrong c.w
  pub stops_d : is_good c.d ≡ true → y.d.stops ≡ stops_at x.v x.image (in_d c)
  pub stops_e : is_good c.e ≡ true → y.e.stops ≡ stops_at x.v x.image (in_e c)
  pub stops_m : is_good c.m ≡ true → y.m.stops ≡ stops_at x.v x.image (in_m c)
  pub stops_w : is_good c.w ≡ true → y.w.stops ≡ stops_at x.v x.image (in_w c)
  pub none_w : is_good c.w ≡ false → y.w.stops ≡ false

pub seen : (x : RunContext) (c : Schedule) → Seen x c (run_flow x c)
unfolding run_flow
seen x c =
    record {
      good_d = refl;
      good_e = refl;
      good_m = refl;
      good_w = refl;
      wrong_d = refl;
      wrong_e = refl;
      wrong_m = refl;
      wrong_w = refl;
      stops_d = and_on _ _;
      stops_e = and_on _ _;
      stops_m = and_on _ _;
      stops_w = and_on _ _;
      none_w = and_left _ _;
    }

-- which stage has the youngest good instruction, and its index
pub data Youngest (c : Schedule) : Type 0 where
  at_d : is_good c.d ≡ true → in_f c ≡ in_d c + 1 → Youngest c
  at_e : is_good c.d ≡ false → is_good c.e ≡ true → in_f c ≡ in_e c + 1 → Youngest c
  at_m : is_good c.d ≡ false → is_good c.e ≡ false → is_good c.m ≡ true → in_f c ≡ in_m c + 1 → Youngest c
  at_w : is_good c.d ≡ false → is_good c.e ≡ false → is_good c.m ≡ false → is_good c.w ≡ true → in_f c ≡ in_w c + 1 → Youngest c
  at_none : is_good c.d ≡ false → is_good c.e ≡ false → is_good c.m ≡ false → is_good c.w ≡ false → in_f c ≡ c.retired → Youngest c

pub youngest : (c : Schedule) → Youngest c
youngest c = by _ _ _ _ refl refl refl refl
  where
    by : (d e m w : Bool) → is_good c.d ≡ d → is_good c.e ≡ e → is_good c.m ≡ m → is_good c.w ≡ w → Youngest c
    by true e m w hd he hm hw = at_d hd (omega (arith, ap count hd))
    by false true m w hd he hm hw = at_e hd he (omega (arith, ap count hd, ap count he))
    by false false true w hd he hm hw = at_m hd he hm (omega (arith, ap count hd, ap count he, ap count hm))
    by false false false true hd he hm hw = at_w hd he hm hw (omega (arith, ap count hd, ap count he, ap count hm, ap count hw))
    by false false false false hd he hm hw = at_none hd he hm hw (omega (arith, ap count hd, ap count he, ap count hm, ap count hw))
