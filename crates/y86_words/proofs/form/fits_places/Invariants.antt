use Rattle.std.proofs.Common.{◌≡◌, ◌-◌, drop, length, map}
use Rattle.y86_words.specs.Forms.{fits_places}
use Rattle.y86_words.specs.Views.{place_in, words_in}
use Rattle.y86_words.proofs.form.fits_places.Given as goal

abbrev pub invariant-places : goal.invariant-places
invariant-places l =
    fits_places (map place_in l.places) (words_in l.words) ≡ fits_places (map place_in (drop l.at l.places)) (words_in (drop l.at l.words))

abbrev pub decreases-places : goal.decreases-places
decreases-places l = length l.places - l.at
