-- Names at their positions in the table, and in the index of names.
use Rattle.std.proofs.Common.{◌≡◌, ℕ, zero, suc, ◌<◌, ◌+◌, Bool, true, false, not, ◌||◌, cond, List, [], ◌∷◌, ◌++◌, map, take, length, get_or, position, refl, sym, ap, ◌∙◌, subst, inl, inr, nat_eq, arith}
use Rattle.std.proofs.Math.Seq.{take-suc}
use Rattle.std.proofs.Math.Numerals.{add-one}
use Rattle.std.proofs.lemmas.List.{length-map, map-append}
use Rattle.std.specs.Prelude.{Vec}
use Rattle.std.specs.List.{list_any, position_or_len}
use Rattle.std.specs.Cmp.Lexicographic.{pointwise, bytes_decides}
use Rattle.indexmap.specs.IndexSet.{insert_key}
use Rattle.hcl_types.specs.declared.table.Row.{Row}
use Rattle.hcl_types.specs.Lists.{IsIn, IsApart}
use Rattle.hcl_binding.specs.Places.{bytes_of}
use Rattle.hcl_types.specs.Tables.{row_names}

first_of_map : {A B : Type 0} (f : A → B) (p : B → Bool) (xs : List A) → position_or_len p (map f xs) ≡ position_or_len (λ x. p (f x)) xs
first_of_map f p [] = refl
first_of_map f p (x ∷ xs) = ap (λ n. cond (not (p (f x))) (1 + n) 0) (first_of_map f p xs)

pub position_of_map : {A B : Type 0} (f : A → B) (p : B → Bool) (xs : List A) → position (λ x. p (f x)) xs ≡ position p (map f xs)
position_of_map f p xs = rw (first_of_map f p xs, length-map xs f) refl

is_in_get : {A : Type 0} (xs : List A) (i : ℕ) (x : A) → i < length xs → x ≡ get_or xs i x → IsIn x xs
is_in_get [] i x h e = absurd (omega (arith, h))
is_in_get (y ∷ ys) zero x h e = inl e
is_in_get (y ∷ ys) (suc i) x h e = inr (is_in_get ys i x (omega (arith, h)) e)

-- no position before a name's own has that name
absent : (names : List (List ℕ)) (i : ℕ) (name : List ℕ) → i < length names → name ≡ get_or names i name → IsApart names →
    list_any (pointwise nat_eq name) (take i names) ≡ false
absent [] i name h e a = absurd (omega (arith, h))
absent (x ∷ xs) zero name h e a = refl
absent (x ∷ xs) (suc i) name h e a = by (absent xs i name (omega (arith, h)) e a.1) (pointwise nat_eq name x) refl
  where
    by : list_any (pointwise nat_eq name) (take i xs) ≡ false → (b : Bool) → pointwise nat_eq name x ≡ b → (pointwise nat_eq name x || list_any (pointwise nat_eq name) (take i xs)) ≡ false
    by rest true p = absurd (a.0 (subst (λ z. IsIn z xs) ((bytes_decides name x).0 p) (is_in_get xs i name (omega (arith, h)) e)))
    by rest false p = rw (p, rest) refl

any_of_map : {A B : Type 0} (f : A → B) (p : B → Bool) (xs : List A) → list_any (λ x. p (f x)) xs ≡ list_any p (map f xs)
any_of_map f p [] = refl
any_of_map f p (x ∷ xs) = ap (λ b. p (f x) || b) (any_of_map f p xs)

map_take : {A B : Type 0} (f : A → B) (i : ℕ) (xs : List A) → map f (take i xs) ≡ take i (map f xs)
map_take f zero xs = refl
map_take f (suc i) [] = refl
map_take f (suc i) (x ∷ xs) = ap (λ ys. f x ∷ ys) (map_take f i xs)

get_of_map : {A B : Type 0} (f : A → B) (xs : List A) (i : ℕ) (x : A) → f (get_or xs i x) ≡ get_or (map f xs) i (f x)
get_of_map f [] i x = refl
get_of_map f (y ∷ ys) zero x = refl
get_of_map f (y ∷ ys) (suc i) x = get_of_map f ys i x

-- the keys after the name of the next row was inserted
pub one_more : {V : Type 0} (keys : List (Vec ℕ V)) (key : Vec ℕ V) (rows : List Row) (i : ℕ) (row : Row) → i < length rows → row ≡ get_or rows i row →
    key.items ≡ row.name → map bytes_of keys ≡ row_names (take i rows) → IsApart (row_names rows) →
    map bytes_of (insert_key (λ a b. pointwise nat_eq a.items b.items) keys key) ≡ row_names (take (i + 1) rows)
one_more keys key rows i row h e name before apart =
    let here : row.name ≡ get_or (row_names rows) i row.name = ap (λ (r : Row). r.name) e ∙ get_of_map (λ (r : Row). r.name) rows i row in
    let inside : i < length (row_names rows) = subst (λ n. i < n) (sym (length-map rows (λ (r : Row). r.name))) h in
    let new : list_any (λ other. pointwise nat_eq key.items other.items) keys ≡ false =
    any_of_map bytes_of (pointwise nat_eq key.items) keys ∙ ap (list_any (pointwise nat_eq key.items)) (before ∙ map_take (λ (r : Row). r.name) i rows)
    ∙ ap (λ n. list_any (pointwise nat_eq n) (take i (row_names rows))) name ∙ absent (row_names rows) i row.name inside here apart in
    rw new (map-append bytes_of keys (key ∷ []) ∙ ap (λ xs. xs ++ key.items ∷ []) before ∙ ap (λ n. row_names (take i rows) ++ n ∷ []) name
    ∙ ap (λ (r : Row). row_names (take i rows) ++ r.name ∷ []) e
    ∙ sym (map-append (λ (r : Row). r.name) (take i rows) (get_or rows i row ∷ []))
    ∙ ap row_names (sym (take-suc rows i row h) ∙ ap (λ k. take k rows) (sym (add-one i))))
