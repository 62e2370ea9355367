-- The different names of a text, as the keys of a set.
use Rattle.std.proofs.Common.{◌≡◌, ap, ℕ, List, [], ◌∷◌, ◌++◌, map, refl, ◌∙◌, false}
use Rattle.std.specs.Prelude.{Vec, nat_eq, ◌||◌}
use Rattle.std.specs.List.{list_any}
use Rattle.std.specs.Cmp.Lexicographic.{pointwise}
use Rattle.std.proofs.lemmas.List.{map-append}
use Rattle.indexmap.specs.IndexSet.{insert_key}
use Rattle.hcl_read.specs.declared.tokens.Token.{Token}
use Rattle.hcl_read.specs.declared.tokens.Token.TheVariants.{Ident}
use Rattle.hcl_read.specs.Fault.{noted}

module _ {A : Type 0} where
  abbrev pub texts : List (Vec ℕ A) → List (List ℕ)
  texts keys = map (λ key. key.items) keys

  -- a name is among the keys if it is among their texts, and conversely
  pub among : (keys : List (Vec ℕ A)) (name : List ℕ) → list_any (λ key. pointwise nat_eq name key.items) keys ≡ list_any (pointwise nat_eq name) (texts keys)
  among [] name = refl
  among (key ∷ keys) name = ap (λ rest. pointwise nat_eq name key.items || rest) (among keys name)

  -- a new name goes last
  pub inserted : (keys : List (Vec ℕ A)) (name : Vec ℕ A) → list_any (pointwise nat_eq name.items) (texts keys) ≡ false →
      texts (insert_key (λ a b. pointwise nat_eq a.items b.items) keys name) ≡ texts keys ++ name.items ∷ []
  inserted keys name e =
      let absent : list_any (λ key. pointwise nat_eq name.items key.items) keys ≡ false = among keys name.items ∙ e in
      rw absent (map-append (λ (key : Vec ℕ A). key.items) keys (name ∷ []))

-- other tokens add no name
pub unnamed : (names : List (List ℕ)) (token : Token) → ((name : List ℕ) → token ≡ Ident name → ⊥) → noted names token ≡ names
unfolding noted
unnamed names (Ident name) other = absurd (other name refl)
unnamed names _ other = refl
