-- A test of the leaf that is picked.
use Rattle.std.proofs.Common.{◌≡◌, Bool, true, false, ◌||◌, ◌&&◌, refl, sym, ap, ◌∙◌, List, [], ◌∷◌, ℕ, length}
use Rattle.std.proofs.lemmas.Bool.{or_left, or_right, and_right}
use Rattle.ctl_atoms.specs.declared.leaf.Leaf.{Leaf}
use Rattle.ctl_picks.specs.declared.controls.Pick.{Pick}
use Rattle.hcl_types.specs.Lists.{some}
use Rattle.nets.specs.Nets.{Gates, ExtendsNet}
use Rattle.ctl_atoms.specs.Leaves.{leaf_eq}
use Rattle.ctl_picks.specs.TakenPicks.{at, leaf_taken, IsOnlyTaken}
use Rattle.ctl_picks.specs.Picks.{Within}
use Rattle.ctl_atoms.proofs.Same.{leaf_eq_true, leaf_eq_self}
use Rattle.ctl_picks.proofs.Steps.{and_same, or_same}

pub taken_kept : {a b : Gates} → ExtendsNet a b → (w : List Bool) (qs : List Pick) → Within (length a.gates) qs → (x : Leaf) → leaf_taken (at b w) qs x ≡ leaf_taken (at a w) qs x
taken_kept k w [] h x = refl
taken_kept k w (q ∷ qs) h x = or_same _ _ _ _ (and_same _ _ _ _ refl (k.same q.gate w h.0)) (taken_kept k w qs h.1 x)

pub picked_kept : {a b : Gates} → ExtendsNet a b → (w : List Bool) (qs : List Pick) → Within (length a.gates) qs → (x : Leaf) → IsOnlyTaken (at a w) qs x → IsOnlyTaken (at b w) qs x
picked_kept k w qs h x p = record { only = λ y. taken_kept k w qs h y ∙ p.only y }

step : (g k t fp fx rest : Bool) → (g ≡ true → k ≡ true) → (k ≡ true → fp ≡ fx) → rest ≡ t && fx → (g && fp) || rest ≡ ((k && g) || t) && fx
step false true t fp fx rest a b e = e
step false false t fp fx rest a b e = e
step true false t fp fx rest a b e = let no : false ≡ true = a refl in cc
step true true t fp true rest a b e = or_left fp rest (b refl)
step true true t fp false rest a b e = ap (λ x. x || rest) (b refl) ∙ (e ∙ and_right t false refl)

-- a test of the leaf whose gate is true, if only x has a true gate
tested : (tr : ℕ → Bool) (f : Leaf → Bool) (x : Leaf) (ps : List Pick) → ((y : Leaf) → leaf_taken tr ps y ≡ true → x ≡ y)
    → some (λ (p : Pick). tr p.gate && f p.leaf) ps ≡ leaf_taken tr ps x && f x
tested tr f x [] h = refl
tested tr f x (p ∷ ps) h =
    step (tr p.gate) (leaf_eq p.leaf x) (leaf_taken tr ps x) (f p.leaf) (f x) (some (λ (q : Pick). tr q.gate && f q.leaf) ps)
    (λ e. ap (leaf_eq p.leaf) (h p.leaf (or_left _ _ (and_same _ _ _ _ (leaf_eq_self p.leaf) e))) ∙ leaf_eq_self p.leaf)
    (λ e. ap f (leaf_eq_true p.leaf x e))
    (tested tr f x ps (λ y t. h y (or_right _ _ t)))

pub chosen : (tr : ℕ → Bool) (f : Leaf → Bool) (x : Leaf) (ps : List Pick) → IsOnlyTaken tr ps x → some (λ (p : Pick). tr p.gate && f p.leaf) ps ≡ f x
chosen tr f x ps h = tested tr f x ps (λ y t. leaf_eq_true x y (sym (h.only y) ∙ t)) ∙ ap (λ b. b && f x) (h.only x ∙ leaf_eq_self x)
