use Rattle.std.proofs.Common.{◌≡◌, ◌^◌, ◌<◌, take}
use Rattle.std.specs.Str.Parse.{digits_value}
use Rattle.cert_checker.proofs.Decimals.{AreDigits}
use Rattle.cert_checker.proofs.numbers.digits_at.Given as goal

abbrev pub invariant-loop-i : goal.invariant-loop-i
invariant-loop-i l = record {
  small : l.n < 2 ^ 64;
  each : AreDigits (take l.i l.bytes);
  value : digits_value 10 (take l.i l.bytes) ≡ l.n;
}
