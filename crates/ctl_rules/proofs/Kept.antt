-- What a gate says about control values stays true as the net grows, and a gate made of two others combines what they
-- say.
use Rattle.std.proofs.Common.{◌≡◌, ℕ, ◌+◌, ◌<◌, IsTrue, Bool, true, false, ◌&&◌, ◌||◌, if◌then◌else◌, List, ◌∷◌, length, get_or, drop, refl, sym, ap, ◌∙◌, arith, add-one, drop-cons}
use Rattle.nets.specs.Nets.{Gates, ExtendsNet, IsGate, truth}
use Rattle.ctl_atoms.specs.declared.leaf.Leaf.{Leaf}
use Rattle.ctl_atoms.specs.declared.leaf.Leaf.TheVariants.{Name}
use Rattle.ctl_atoms.specs.Leaves.{Assignment, leaf_eq}
use Rattle.ctl_picks.specs.declared.controls.Pick.{Pick}
use Rattle.ctl_picks.specs.declared.controls.Entry.{Entry}
use Rattle.ctl_picks.specs.Picks.{Within, some_pick, IsInside, EncodesControls, gate_of, picks_of, has_picks}
use Rattle.ctl_picks.proofs.Inside.{some_pick_kept}
use Rattle.net_fields.specs.Spelling.{spelt}
use Rattle.net_fields.proofs.Patterns.{spelt_lt}
use Rattle.ctl_rules.specs.ControlGates.{IsControlGate, leaf_expected}
use Rattle.ctl_rules.specs.ColumnDemands.{picks_leaf}
use Rattle.ctl_rules.specs.declared.expected_leaf.ExpectedLeaf.{ExpectedLeaf}

-- if the larger net encodes control values, so does the smaller one
pub tells_less : {old new : Gates} {ctl : List Entry} {w : List Bool} {α : Assignment} {cv : ℕ → Leaf} → ExtendsNet old new → IsInside old ctl → EncodesControls new ctl w α cv → EncodesControls old ctl w α cv
tells_less {old} {new} {ctl} {w} {α} {cv} k h t = record {
  truths_are = λ n has. sym (k.same (gate_of ctl n) w (h.gates_in n has)) ∙ t.truths_are n has;
  picks_are = λ n has test. sym (some_pick_kept k w test (picks_of ctl n) (h.picks_in n has)) ∙ t.picks_are n has test;
}

pub asked_more : {old new : Gates} {ctl : List Entry} {g : ℕ} {f : List Bool → Assignment → (ℕ → Leaf) → Bool} → ExtendsNet old new → IsInside old ctl → IsControlGate old ctl g f → IsControlGate new ctl g f
asked_more {old} {new} {ctl} {g} {f} k h q = record {
  within = let x = k.more in let y = q.within in omega arith;
  is = λ w α cv t. k.same g w q.within ∙ q.is w α cv (tells_less k h t);
}

-- the same gate, by an equal truth
pub asked_as : {net : Gates} {ctl : List Entry} {g : ℕ} {f h : List Bool → Assignment → (ℕ → Leaf) → Bool} → IsControlGate net ctl g f
    → ((w : List Bool) (α : Assignment) (cv : ℕ → Leaf) → f w α cv ≡ h w α cv) → IsControlGate net ctl g h
asked_as q e = record { within = q.within; is = λ w α cv t. q.is w α cv t ∙ e w α cv }

-- a gate that depends on bits alone
pub asked_gate : {net : Gates} {ctl : List Entry} {g : ℕ} {f : List Bool → Bool} → IsGate net g f → IsControlGate net ctl g (λ w α cv. f w)
asked_gate m = record { within = m.within; is = λ w α cv t. m.is w }

-- a gate made of one other, and of two
pub asked_one : {old new : Gates} {ctl : List Entry} {x g : ℕ} {f : List Bool → Assignment → (ℕ → Leaf) → Bool} (join : List Bool → Bool → Bool)
    → ExtendsNet old new → IsInside old ctl → IsControlGate old ctl x f → IsGate new g (λ w. join w (truth old x w)) → IsControlGate new ctl g (λ w α cv. join w (f w α cv))
asked_one {old} {new} {ctl} {x} {g} {f} join k i p m = record { within = m.within; is = λ w α cv t. m.is w ∙ ap (join w) (p.is w α cv (tells_less k i t)) }

pub asked_two : {old new : Gates} {ctl : List Entry} {x y g : ℕ} {f h : List Bool → Assignment → (ℕ → Leaf) → Bool} (join : List Bool → Bool → Bool → Bool)
    → ExtendsNet old new → IsInside old ctl → IsControlGate old ctl x f → IsControlGate old ctl y h → IsGate new g (λ w. join w (truth old x w) (truth old y w))
    → IsControlGate new ctl g (λ w α cv. join w (f w α cv) (h w α cv))
asked_two {old} {new} {ctl} {x} {y} {g} {f} {h} join k i p q m = record {
  within = m.within;
  is = λ w α cv t.
      let u = tells_less k i t in
      m.is w ∙ (ap (λ z. join w z (truth old y w)) (p.is w α cv u) ∙ ap (λ z. join w (f w α cv) z) (q.is w α cv u));
}

-- ---- picks, one by one

cut : {A : Type 0} (xs : List A) (i : ℕ) (d : A) → i < length xs → drop i xs ≡ get_or xs i d ∷ drop (i + 1) xs
cut xs i d lt = rw add-one (drop-cons xs i d lt)

-- the pick that an index past the end reads
abbrev no_pick : Pick
no_pick = record { leaf = Name 0; gate = 0 }

pub some_from : (net : Gates) (w : List Bool) (test : Leaf → Bool) (ps : List Pick) (i : ℕ) → i < length ps
    → some_pick net w test (drop i ps) ≡ ((truth net (get_or ps i no_pick).gate w && test (get_or ps i no_pick).leaf) || some_pick net w test (drop (i + 1) ps))
some_from net w test ps i lt = rw (cut ps i no_pick lt) refl

pub within_from : (n : ℕ) (ps : List Pick) (i : ℕ) → i < length ps → Within n (drop i ps) → ((get_or ps i no_pick).gate < n) × Within n (drop (i + 1) ps)
within_from n ps i lt h = rw (cut ps i no_pick lt) at h

-- another pick, joined to those before it
pub some_joined : (any any' g g' s t here next rest all : Bool) → any' ≡ any → g' ≡ g → s ≡ t → here ≡ (g' && s) → next ≡ (any' || here)
    → (any || ((g && t) || rest)) ≡ all → (next || rest) ≡ all
some_joined any any' g g' s t here next rest all h1 h2 h3 h4 h5 h6 = rw (h5, h1, h4, h2, h3) (grouped any (g && t) rest ∙ h6)
  where
    grouped : (a b c : Bool) → ((a || b) || c) ≡ (a || (b || c))
    grouped true b c = refl
    grouped false b c = refl

-- one of two leaves
pub eq_if : (b : Bool) (x y z : Leaf) → (if b then leaf_eq x y else leaf_eq x z) ≡ leaf_eq x (if b then y else z)
eq_if true x y z = refl
eq_if false x y z = refl

-- a gate that is true if one of a signal's picks has the wanted leaf and is taken
pub asked_picks : {old new : Gates} {ctl : List Entry} {name g : ℕ} {ps : List Pick} (want : ExpectedLeaf) → ExtendsNet old new → IsInside old ctl → IsTrue (has_picks ctl name) → ps ≡ picks_of ctl name
    → IsGate new g (λ w. some_pick old w (λ leaf. leaf_eq leaf (leaf_expected w want)) ps) → IsControlGate new ctl g (λ w α cv. picks_leaf cv name (leaf_expected w want))
asked_picks {old} {new} {ctl} {name} {g} {ps} want k i has e m = record {
  within = m.within;
  is = λ w α cv t.
      m.is w ∙ (ap (some_pick old w (λ leaf. leaf_eq leaf (leaf_expected w want))) e
      ∙ (tells_less k i t).picks_are name has (λ leaf. leaf_eq leaf (leaf_expected w want)));
}

-- the number that four bits spell is below 16
pub spelt_code : (w : List Bool) (first bits : ℕ) → bits ≡ 4 → spelt w first bits < 16
spelt_code w first bits e = rw e (spelt_lt w first 4)
