-- In a net that has grown from one with the gates of all names: what the gates of an obligation are made from, and the
-- variables of the atoms.
use Rattle.std.proofs.Common.{List, length, arith}
use Rattle.nets.specs.Nets.{Gates, ExtendsNet}
use Rattle.ctl_atoms.specs.declared.leaf.Atom.{Atom}
use Rattle.ctl_picks.specs.Picks.{Covers, IsInside}
use Rattle.ctl_picks.proofs.Inside.{inside_more}
use Rattle.dp_signals.specs.PipeTable.{pipe_rows}
use Rattle.pipe_motion.specs.Gates.{HasFlow}
use Rattle.pipe_gates.specs.declared.inputs.RuleInputs.{RuleInputs}
use Rattle.pipe_gates.specs.Inputs.{IsRuleReady}
use Rattle.pipe_motion_gates.specs.Legality.{HasAtomVariables}

pub variables_stay : {old new : Gates} {atoms : List Atom} → ExtendsNet old new → HasAtomVariables old atoms → HasAtomVariables new atoms
variables_stay k has = record { vars = let same = k.vars in let fits = has.vars in omega (arith, same, fits); few = has.few }

pub inputs_ready : {old new : Gates} {inputs : RuleInputs} {atoms : List Atom} → ExtendsNet old new → IsInside old inputs.controls.now → Covers pipe_rows inputs.controls.now
    → HasAtomVariables old atoms → HasFlow (length new.gates) inputs.flow.now → IsRuleReady new inputs
inputs_ready k inside known variables flow = record {
  has = record { inside = inside_more k inside; vars = let same = k.vars in let fits = variables.vars in omega (arith, same, fits); flow = flow };
  known = known;
}
