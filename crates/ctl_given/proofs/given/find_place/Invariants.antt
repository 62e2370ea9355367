use Rattle.std.proofs.Common.{◌≡◌, drop}
use Rattle.ctl_given.specs.Places.{place_of}
use Rattle.ctl_given.proofs.given.find_place.Given as goal

abbrev pub invariant-loop-place : goal.invariant-loop-place
invariant-loop-place l = place_of (drop l.place-index l.places) l.name ≡ place_of l.places l.name
