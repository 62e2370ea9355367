use Rattle.std.proofs.Common.{◌≡◌, drop, map}
use Rattle.y86_words.specs.Forms.{first_fit}
use Rattle.y86_words.specs.Views.{filled_in, form_in}
use Rattle.y86_words.proofs.form.first_fit.Given as goal

abbrev pub invariant-loop-form : goal.invariant-loop-form
invariant-loop-form l = first_fit (map form_in l.forms) l.name (filled_in l.found) ≡ first_fit (map form_in (drop l.form-index l.forms)) l.name (filled_in l.found)
