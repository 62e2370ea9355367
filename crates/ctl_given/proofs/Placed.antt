-- The places of fields: a place that is found is one of the list, and each field with bits has one.
use Rattle.std.proofs.Common.{◌≡◌, ℕ, zero, suc, ◌+◌, ◌==◌, Bool, true, false, not, ◌&&◌, ◌||◌, is_some, List, [], ◌∷◌, Option, Some, None, slice_get, IsTrue, refl, sym, ap, ◌∙◌, subst, arith, if◌then◌else◌}
use Rattle.std.proofs.lemmas.Bool.{and_parts, eqb-true, false≢true}
use Rattle.std.proofs.lemmas.Option.{same_Some}
use Rattle.std.specs.List.{AllByRecursion}
use Rattle.hcl_types.specs.declared.table.Row.{Row}
use Rattle.ctl_given.specs.declared.places.Place.{Place}
use Rattle.ctl_given.specs.Places.{are_placed, has_bits, is_field, place_of}

-- a place that is found is one of the list, and has the name
pub place_at : (P : Place → Type 0) (ps : List Place) (n : ℕ) (p : Place) → place_of ps n ≡ Some p → AllByRecursion P ps → P p × (p.name ≡ n)
place_at P [] n p e h = absurd (grind (arith, e))
place_at P (q ∷ ps) n p e h = by (λ f. place_at P ps n p f h.1) (q.name == n) refl
  where
    by : (place_of ps n ≡ Some p → P p × (p.name ≡ n)) → (b : Bool) → (q.name == n) ≡ b → P p × (p.name ≡ n)
    by go true t =
        let same : q ≡ p = same_Some q p (sym (ap (λ b. if b then Some q else place_of ps n) t) ∙ e) in
        (subst P same h.0, sym (ap (λ (x : Place). x.name) same) ∙ eqb-true q.name n t)
    by go false t = go (sym (ap (λ b. if b then Some q else place_of ps n) t) ∙ e)

-- a field with bits has a place
pub placed_at : (places : List Place) (k : ℕ) (rows : List Row) (n : ℕ) (row : Row) → slice_get rows n ≡ Some row → IsTrue (are_placed places k rows) → is_field row.role ≡ true → has_bits row.class ≡ true →
    IsTrue (is_some (place_of places (k + n)))
placed_at places k [] n row e h f b = absurd (grind (arith, e))
placed_at places k (r ∷ rows) zero row e h f b =
    let same = same_Some r row e in
    let here = (and_parts (not (is_field r.role && has_bits r.class) || is_some (place_of places k)) (are_placed places (k + 1) rows) h).0 in
    let at_row : IsTrue (not (is_field row.role && has_bits row.class) || is_some (place_of places k)) = subst (λ (x : Row). IsTrue (not (is_field x.role && has_bits x.class) || is_some (place_of places k))) same here in
    subst (λ i. IsTrue (is_some (place_of places i))) (let q : k ≡ k + 0 = omega arith in q)
    (sym (ap (λ x. not (x && has_bits row.class) || is_some (place_of places k)) f ∙ ap (λ x. not x || is_some (place_of places k)) b) ∙ at_row)
placed_at places k (r ∷ rows) (suc n) row e h f b =
    subst (λ i. IsTrue (is_some (place_of places i))) (let q : (k + 1) + n ≡ k + suc n = omega arith in q)
    (placed_at places (k + 1) rows n row e (and_parts (not (is_field r.role && has_bits r.class) || is_some (place_of places k)) (are_placed places (k + 1) rows) h).1 f b)

-- the place of a field with bits, with a property that all places have
pub field_place : (P : Place → Type 0) (places : List Place) (k : ℕ) (rows : List Row) (n : ℕ) (row : Row) → slice_get rows n ≡ Some row → IsTrue (are_placed places k rows) → is_field row.role ≡ true → has_bits row.class ≡ true →
    AllByRecursion P places → (p : Place) × P p × (p.name ≡ k + n)
field_place P places k rows n row e h f b all = found (place_of places (k + n)) (placed_at places k rows n row e h f b) refl
  where
    found : (o : Option Place) → IsTrue (is_some o) → place_of places (k + n) ≡ o → (p : Place) × P p × (p.name ≡ k + n)
    found None some e = absurd (false≢true some)
    found (Some p) some e = let held = place_at P places (k + n) p e all in (p, held.0, held.1)
