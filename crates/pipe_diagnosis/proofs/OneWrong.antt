-- Where an obligation is false, one of its requirements isn't met; an obligation on motion has none. The computed control values are those of PIPE.
use Rattle.std.proofs.Common.{◌≡◌, ℕ, ◌<◌, ◌≤◌, Bool, false, List, [], ◌∷◌, map, sym, ap, ◌∙◌, subst}
use Rattle.std.proofs.lemmas.List.{get_or_past}
use Rattle.y86_base.specs.declared.parts.Variant.{Variant}
use Rattle.hcl_types.specs.declared.term.Term.{Term}
use Rattle.ctl_atoms.specs.declared.leaf.Leaf.{Leaf}
use Rattle.ctl_atoms.specs.declared.leaf.Atom.{Atom}
use Rattle.ctl_atoms.specs.Leaves.{Assignment}
use Rattle.ctl_equations.specs.Controls.{AreControls}
use Rattle.control_values.specs.Given.{field_at}
use Rattle.dp_signals.specs.PipeTable.{pipe_rows}
use Rattle.net_fields.specs.FieldSpecs.{number_among}
use Rattle.pipe_fields.specs.Layout.{Fields, fields_of, number_of, field_specs}
use Rattle.pipe_fields.proofs.Told.{numbers_of}
use Rattle.pipe_motion.specs.Flow.{Flow, RegisterControls}
use Rattle.pipe_motion.specs.declared.settings.Settings.{Settings}
use Rattle.pipe_obligations.specs.Obligations.{register_controls_of}
use Rattle.pipe_obligations.specs.Rules.{demand, demand_at, is_demanded, obligation}
use Rattle.pipe_obligations.specs.FileSettings.{PipeControls}
use Rattle.pipe_obligations.specs.StageFlows.{flow_of}
use Rattle.dp_signals.specs.PipeNames as signal
use Rattle.findings.proofs.EachMet.{demand_false, findings_right}
use Rattle.findings.specs.Findings.{are_right, finding}
use Rattle.pipe_requirements.specs.Requirements.{required, first_on_motion, requirements}
use Rattle.pipe_requirements.proofs.ByRequirements.{by_requirements}

-- an obligation on motion requires nothing of a signal
pub none_behind : (v : Variant) (s : Settings) (c : Fields) (y : Flow) (mv : RegisterControls) (cv : ℕ → Leaf) (i : ℕ) → first_on_motion ≤ i → [] ≡ requirements v s c y mv cv i
unfolding requirements
none_behind v s c y mv cv i ge = sym (get_or_past ([] ∷ required v s c y mv cv) i [] ge)

-- the number of each field is that of the valuation
pub numbers_are : (w : List Bool) (n : ℕ) → field_at field_specs w n ≡ number_of (fields_of w) n
unfolding number_of
numbers_are w n = ap (λ (xs : List ℕ). number_among field_specs xs n) (sym (numbers_of w))

pub controls_are : (terms : List Term) (w : List Bool) (α : Assignment) (cv : ℕ → Leaf) → AreControls pipe_rows terms (field_at field_specs w) α cv → PipeControls terms (fields_of w) α cv
controls_are terms w α cv h = subst (λ (f : ℕ → ℕ). AreControls pipe_rows terms f α cv) (λ i n. numbers_are w n i) h

pub one_wrong : (v : Variant) (terms : List Term) (s : Settings) (atoms : List Atom) (i : ℕ) (w : List Bool) (α : Assignment) (cv : ℕ → Leaf) → 1 ≤ i → i < first_on_motion → obligation v s atoms i (fields_of w) α cv ≡ false →
    are_right (map (finding signal.f_pc terms α cv) (requirements v s (fields_of w) (flow_of v s (fields_of w)) (register_controls_of α cv) cv i)) ≡ false
unfolding demand_at
one_wrong v terms s atoms i w α cv ge lt e =
    let c = fields_of w in
    findings_right signal.f_pc terms α cv (requirements v s c (flow_of v s c) (register_controls_of α cv) cv i)
    ∙ (sym (by_requirements v s c (flow_of v s c) (register_controls_of α cv) α cv i ge lt) ∙ demand_false (is_demanded v s atoms i c α) (demand i v s c (flow_of v s c) (register_controls_of α cv) α cv) e)
