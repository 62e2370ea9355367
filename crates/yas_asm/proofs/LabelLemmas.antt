-- The label table: what a look-up finds, and that a new name goes last.
use Rattle.std.proofs.Common.{◌≡◌, ap, ℕ, cond, List, [], ◌∷◌, ◌++◌, map, None, Some, refl}
use Rattle.std.specs.Prelude.{Vec, nat_eq}
use Rattle.std.specs.Cmp.Lexicographic.{pointwise}
use Rattle.std.specs.Map.{lookup}
use Rattle.indexmap.specs.IndexMap.{insert_entry}
use Rattle.yas_asm.proofs.Parts.{not_here}
use Rattle.y86_base.specs.Keyword.{meaning_of}
use Rattle.yas_asm.specs.LabelMap.{named}

module _ {A : Type 0} where
  pub lookup_named : (es : List (Vec ℕ A × ℕ)) (name : List ℕ) → lookup (λ key. pointwise nat_eq name key.items) es ≡ meaning_of (map named es) name
  unfolding meaning_of
  lookup_named [] name = refl
  lookup_named (e ∷ es) name = ap (λ rest. cond (pointwise nat_eq name e.0.items) (Some e.1) rest) (lookup_named es name)

  -- a new name goes last
  pub insert_named : (es : List (Vec ℕ A × ℕ)) (key : Vec ℕ A) (address : ℕ) → meaning_of (map named es) key.items ≡ None
      → map named (insert_entry (λ a b. pointwise nat_eq a.items b.items) es key address) ≡ map named es ++ (key.items, address) ∷ []
  unfolding meaning_of
  insert_named [] key address e = refl
  insert_named (entry ∷ es) key address e =
      let two = not_here (pointwise nat_eq key.items entry.0.items) entry.1 (meaning_of (map named es) key.items) e in
      rw two.0 (ap (λ rest. named entry ∷ rest) (insert_named es key address two.1))
