-- Members of a JSON object, as tokens.
use Rattle.std.specs.Prelude.{ℕ, Bool, List, [], ◌∷◌, ◌++◌, codes, decimal}
use Rattle.json.specs.Token.{Token, begin_object, end_object, key, string, number, boolean}
use Rattle.explanations.specs.declared.obligations.Obligation.{Obligation}

abbrev pub text : List ℕ → List ℕ → List Token
text name value = key name ∷ string value ∷ []

abbrev pub count : List ℕ → ℕ → List Token
count name n = key name ∷ number (decimal n) ∷ []

abbrev pub truth : List ℕ → Bool → List Token
truth name b = key name ∷ boolean b ∷ []

-- what an obligation demands
unfoldable pub demand_facts : Obligation → List Token
demand_facts o = text (codes "label") o.label.now ++ text (codes "demand") o.demand.now

-- why
unfoldable pub reason_facts : Obligation → List Token
reason_facts o = text (codes "reason") o.reason.now ++ text (codes "book") o.book.now

-- an obligation
unfoldable pub obligation : Obligation → List Token
obligation o = (begin_object ∷ []) ++ demand_facts o ++ reason_facts o ++ (end_object ∷ [])
