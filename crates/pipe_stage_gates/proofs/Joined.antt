-- The truth of a gate that joins two others, of which the first was made before the second.
use Rattle.std.proofs.Common.{◌≡◌, IsTrue, ℕ, ◌==◌, ◌&&◌, ◌||◌, not, Bool, true, false, if◌then◌else◌, List, refl, sym, ap, subst, ◌∙◌}
use Rattle.nets.specs.Nets.{Gates, ExtendsNet, IsGate, agree, truth}
use Rattle.ctl_atoms.specs.declared.leaf.Leaf.{Leaf}
use Rattle.ctl_atoms.specs.declared.leaf.Leaf.TheVariants.{Number}
use Rattle.ctl_atoms.specs.Leaves.{Assignment, leaf_holds}
use Rattle.ctl_picks.specs.declared.controls.Entry.{Entry}
use Rattle.ctl_picks.specs.Picks.{IsInside, gate_of, has_gate}
use Rattle.ctl_picks.proofs.Inside.{inside_more}
use Rattle.y86_base.specs.Words.{set}
use Rattle.pipe_stage_gates.specs.Signals.{IsReady}
use Rattle.pipe_fields.specs.Layout.{Fields}
use Rattle.pipe_motion.specs.declared.settings.Settings.{Settings}
use Rattle.pipe_motion.specs.Flow.{RegisterControls, Flow}
use Rattle.pipe_obligations.specs.Obligations.{picks_right_value}
use Rattle.y86_base.specs.declared.parts.Variant.{Variant}
use Rattle.y86_isa.specs.Blocks.{destination_e}
use Rattle.y86_isa.specs.Table.{no_register}
use Rattle.ctl_rules.specs.ControlGates.{IsControlGate}
use Rattle.ctl_rules.proofs.Kept.{asked_more, asked_gate, asked_two, tells_less}

-- two gates over control values
pub then_asked : {n0 n1 n2 n3 : Gates} {ctl : List Entry} {x y g : ℕ} {p q : List Bool → Assignment → (ℕ → Leaf) → Bool} (join : Bool → Bool → Bool)
    → IsInside n0 ctl → ExtendsNet n0 n1 → IsControlGate n1 ctl x p → ExtendsNet n1 n2 → IsControlGate n2 ctl y q → ExtendsNet n2 n3
    → IsGate n3 g (λ w. join (truth n2 x w) (truth n2 y w)) → IsControlGate n3 ctl g (λ w α cv. join (p w α cv) (q w α cv))
then_asked join i k p l q m made =
    let i1 = inside_more k i in
    asked_two (λ w a b. join a b) m (inside_more l i1) (asked_more l i1 p) q made

-- a gate over bits, and one over control values
pub gate_then_asked : {n0 n1 n2 n3 : Gates} {ctl : List Entry} {x y g : ℕ} {p : List Bool → Bool} {q : List Bool → Assignment → (ℕ → Leaf) → Bool} (join : Bool → Bool → Bool)
    → IsInside n0 ctl → ExtendsNet n0 n1 → IsGate n1 x p → ExtendsNet n1 n2 → IsControlGate n2 ctl y q → ExtendsNet n2 n3
    → IsGate n3 g (λ w. join (truth n2 x w) (truth n2 y w)) → IsControlGate n3 ctl g (λ w α cv. join (p w) (q w α cv))
gate_then_asked join i k p l q m made = then_asked join i k (asked_gate p) l q m made

-- a truth compared with the gate of a name
pub truth_told : {old new : Gates} {ctl : List Entry} {told g : ℕ} (name want : ℕ) → IsInside old ctl → IsTrue (has_gate ctl name) → told ≡ gate_of ctl name → ExtendsNet old new
    → IsGate new g (λ w. agree (truth old want w) (truth old told w)) → IsControlGate new ctl g (λ w α cv. agree (truth old want w) (leaf_holds α (cv name)))
truth_told {old} {new} {ctl} {told} {g} name want i has e k made = record {
  within = made.within;
  is = λ w α cv t. made.is w ∙ (ap (λ (z : ℕ). agree (truth old want w) (truth old z w)) e ∙ ap (agree (truth old want w)) ((tells_less k i t).truths_are name has));
}

pub number_if : (b : Bool) (x y : ℕ) → (if b then Number x else Number y) ≡ Number (if b then x else y)
number_if true x y = refl
number_if false x y = refl

-- the destination after a condition that may not hold
pub lost_if : (c : Bool) (n d : ℕ) → (if c && n == 0 then Number no_register else Number d) ≡ Number (destination_e c (set n) d)
lost_if c n d = by c (n == 0)
  where
    by : (c z : Bool) → (if c && z then Number no_register else Number d) ≡ Number (if c && not (not z) then no_register else d)
    by true true = refl
    by true false = refl
    by false true = refl
    by false false = refl

pub both_by : {a b x y : Bool} → a ≡ x → b ≡ y → (a && b) ≡ (x && y)
both_by {a} {b} {x} {y} e f = ap (λ z. z && b) e ∙ ap (λ z. x && z) f

pub either_by : {a b x y : Bool} → a ≡ x → b ≡ y → (a || b) ≡ (x || y)
either_by {a} {b} {x} {y} e f = ap (λ z. z || b) e ∙ ap (λ z. x || z) f

-- what is demanded only if two truths hold
pub regroup : (a b x : Bool) → (not a || (not b || x)) ≡ (not (a && b) || x)
regroup true b x = refl
regroup false b x = refl

-- signals keep their control values, and fields their places, as the net grows
pub ready_more : {old new : Gates} {ctl : List Entry} → ExtendsNet old new → IsReady old.vars ctl → IsReady new.vars ctl
ready_more {old} {new} {ctl} k r = subst (λ (n : ℕ). IsReady n ctl) (sym k.vars) r

-- the demand on a word, given the flow of the stages and the truth that counts if the value isn't known yet
pub right_by : (v : Variant) (s : Settings) (c : Fields) (k : RegisterControls) (α : Assignment) (cv : ℕ → Leaf) (word source rest : ℕ) (y y' : Flow) (free free' : Bool) → y ≡ y' → free ≡ free'
    → picks_right_value v s c y k α cv free word source rest ≡ picks_right_value v s c y' k α cv free' word source rest
right_by v s c k α cv word source rest y y' free free' p q = rw (p, q) refl
