-- Equal parts give equal gates for the valuations that show a setting.
use Rattle.std.proofs.Common.{◌≡◌, ℕ, Bool, ◌&&◌, not, refl}
use Rattle.y86_base.specs.declared.parts.Variant.{Variant}
use Rattle.ctl_atoms.specs.declared.leaf.Leaf.{Leaf}
use Rattle.pipe_fields.specs.Layout.{Fields}
use Rattle.pipe_obligations.specs.FileSettings.{leaves_past_load}
use Rattle.pipe_motion.specs.Flow.{RegisterControls, Flow, leaves}

pub load_by : (stores loads : Bool) (y y' : Flow) (equal equal' : Bool) (k k' : RegisterControls) (plain plain' : Bool) → y ≡ y' → equal ≡ equal' → k ≡ k' → plain ≡ plain' →
    not ((stores && (y.e.good && (loads && (equal && leaves k y)))) && plain) ≡ not ((stores && (y'.e.good && (loads && (equal' && leaves k' y')))) && plain')
load_by stores loads y y' equal equal' k k' plain plain' p q r s = rw (p, q, r, s) refl

pub past_by : (v : Variant) (c : Fields) (k : RegisterControls) (cv : ℕ → Leaf) (y y' : Flow) (plain plain' : Bool) → y ≡ y' → plain ≡ plain' →
    not (leaves_past_load v c y k cv && plain) ≡ not (leaves_past_load v c y' k cv && plain')
past_by v c k cv y y' plain plain' p q = rw (p, q) refl

pub jump_by : (y y' : Flow) (right right' plain plain' : Bool) → y ≡ y' → right ≡ right' → plain ≡ plain' →
    not ((y.e.missed && right) && plain) ≡ not ((y'.e.missed && right') && plain')
jump_by y y' right right' plain plain' p q s = rw (p, q, s) refl

pub ret_by : (y y' : Flow) (right right' plain plain' : Bool) → y ≡ y' → right ≡ right' → plain ≡ plain' →
    not (((y.m.ret && not y.m.stops) && right) && plain) ≡ not (((y'.m.ret && not y'.m.stops) && right') && plain')
ret_by y y' right right' plain plain' p q s = rw (p, q, s) refl
