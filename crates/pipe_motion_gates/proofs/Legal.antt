-- A valuation is legal if it is so in the flow of its stages, and the gate of a premise.
use Rattle.std.proofs.Common.{◌≡◌, Bool, true, false, not, ◌&&◌, ◌||◌, List, refl, ap}
use Rattle.y86_base.specs.declared.parts.Variant.{Variant}
use Rattle.ctl_atoms.specs.declared.leaf.Atom.{Atom}
use Rattle.ctl_atoms.specs.Leaves.{Assignment}
use Rattle.pipe_fields.specs.Layout.{Fields}
use Rattle.pipe_motion.specs.Flow.{Flow}
use Rattle.pipe_motion.specs.declared.settings.Settings.{Settings}
use Rattle.pipe_obligations.specs.StageFlows.{flow_of, legal}
use Rattle.pipe_motion_gates.specs.Legality.{legal_with}

pub legal_by : (v : Variant) (s : Settings) (atoms : List Atom) (c : Fields) (α : Assignment) {y : Flow} → y ≡ flow_of v s c → legal_with v s atoms c y α ≡ legal v s atoms c α
unfolding legal legal_with
legal_by v s atoms c α e = ap (λ (z : Flow). legal_with v s atoms c z α) e

-- the gate of a premise in any cycle, and in one that doesn't stop
pub premise_always : (p q z x y a always : Bool) → a ≡ (x && y) → x ≡ p → y ≡ q → always ≡ true → a ≡ (p && (q && (always || not z)))
premise_always p q z x y a always e f g h = rw (e, f, g, h) (plain p q)
  where
    plain : (p q : Bool) → (p && q) ≡ (p && (q && (true || not z)))
    plain true true = refl
    plain true false = refl
    plain false q = refl

pub premise_going : (p q z x y t a g always : Bool) → g ≡ (a && not t) → a ≡ (x && y) → t ≡ z → x ≡ p → y ≡ q → always ≡ false → g ≡ (p && (q && (always || not z)))
premise_going p q z x y t a g always e f h i j k = rw (e, f, h, i, j, k) (plain p q)
  where
    plain : (p q : Bool) → ((p && q) && not z) ≡ (p && (q && not z))
    plain true q = refl
    plain false q = refl
