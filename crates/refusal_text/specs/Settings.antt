-- The settings of a file as tokens of JSON.
use Rattle.std.specs.Prelude.{Bool, List, [], ◌∷◌, ◌++◌, map, codes}
use Rattle.json.specs.Token.{Token, begin_array, begin_object, boolean, end_array, end_object, key}
use Rattle.finding_text.specs.Facts.{truth}
use Rattle.pipe_motion.specs.declared.settings.Settings.{Settings}

-- truths as an array
abbrev pub truths : List Bool → List Token
truths all = begin_array ∷ map boolean all ++ end_array ∷ []

-- which jumps are predicted as taken
unfoldable pub jumps_facts : Settings → List Token
jumps_facts s = (key (codes "pt") ∷ truths s.pt) ++ (key (codes "pb") ∷ truths s.pb)

-- the other settings
unfoldable pub choices_facts : Settings → List Token
choices_facts s = truth (codes "tv") s.tv ++ truth (codes "lf") s.lf ++ truth (codes "je") s.je ++ truth (codes "rm") s.rm

-- the settings as an object
unfoldable pub settings_facts : Settings → List Token
settings_facts s = (begin_object ∷ []) ++ jumps_facts s ++ choices_facts s ++ (end_object ∷ [])
