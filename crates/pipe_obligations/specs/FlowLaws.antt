-- What follows from a legal flow.
use Rattle.std.specs.Prelude.{◌≡◌, true, false}
use Rattle.pipe_motion.specs.Flow.{Flow, is_followed_e, is_followed_m, is_followed_w}

-- an instruction with a younger good one doesn't stop
pub record OlderGoesOn (v : Flow) : Type 0 where
  pub in_e : is_followed_e v ≡ true → v.e.stops ≡ false
  pub in_m : is_followed_m v ≡ true → v.m.stops ≡ false
  pub in_w : is_followed_w v ≡ true → v.w.stops ≡ false

-- an instruction with a younger good one is no missed jump in E, and no ret in E or M
pub record OlderIsResolved (v : Flow) : Type 0 where
  pub no_missed : is_followed_e v ≡ true → v.e.missed ≡ false
  pub no_ret_in_e : is_followed_e v ≡ true → v.e.ret ≡ false
  pub no_ret_in_m : is_followed_m v ≡ true → v.m.ret ≡ false
