-- What gates say stays true as the net grows.
use Rattle.std.proofs.Common.{◌≡◌, ℕ, ◌≤◌, Bool, ◌&&◌, ◌||◌, List, [], ◌∷◌, length, refl, ap, ◌∙◌, arith}
use Rattle.nets.specs.Nets.{Gates, ExtendsNet, truth}
use Rattle.ctl_atoms.specs.declared.leaf.Leaf.{Leaf}
use Rattle.ctl_atoms.specs.Leaves.{Assignment}
use Rattle.ctl_picks.specs.declared.controls.Pick.{Pick}
use Rattle.ctl_picks.specs.declared.controls.Entry.{Entry}
use Rattle.ctl_picks.specs.Picks.{Within, some_pick, IsInside, EncodesControls, gate_of, picks_of}

pub within_more : (m n : ℕ) (ps : List Pick) → m ≤ n → Within m ps → Within n ps
within_more m n [] h w = tt
within_more m n (p ∷ ps) h w = (let x = w.0 in omega (arith, x), within_more m n ps h w.1)

pub some_pick_kept : {old new : Gates} → ExtendsNet old new → (w : List Bool) (test : Leaf → Bool) (ps : List Pick) → Within (length old.gates) ps
    → some_pick new w test ps ≡ some_pick old w test ps
some_pick_kept k w test [] h = refl
some_pick_kept {old} {new} k w test (p ∷ ps) h =
    ap (λ b. (b && test p.leaf) || some_pick new w test ps) (k.same p.gate w h.0)
    ∙ ap (λ b. (truth old p.gate w && test p.leaf) || b) (some_pick_kept k w test ps h.1)

pub inside_more : {old new : Gates} {ctl : List Entry} → ExtendsNet old new → IsInside old ctl → IsInside new ctl
inside_more {old} {new} {ctl} k h = record {
  gates_in = λ n has. let x = h.gates_in n has in let y = k.more in omega arith;
  picks_in = λ n has. within_more (length old.gates) (length new.gates) (picks_of ctl n) k.more (h.picks_in n has);
}

pub tells_more : {old new : Gates} {ctl : List Entry} {w : List Bool} {α : Assignment} {cv : ℕ → Leaf} → ExtendsNet old new → IsInside old ctl → EncodesControls old ctl w α cv → EncodesControls new ctl w α cv
tells_more {old} {new} {ctl} {w} {α} {cv} k h t = record {
  truths_are = λ n has. k.same (gate_of ctl n) w (h.gates_in n has) ∙ t.truths_are n has;
  picks_are = λ n has test. some_pick_kept k w test (picks_of ctl n) (h.picks_in n has) ∙ t.picks_are n has test;
}
