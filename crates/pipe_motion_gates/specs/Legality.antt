-- The parts of legal valuations in the form in which their gates are built, and the variables that these gates need.
use Rattle.std.specs.Prelude.{Bool, not, ◌&&◌, ◌||◌, ◌==◌, ◌+◌, ◌≤◌, List, length}
use Rattle.y86_base.specs.declared.parts.Variant.{Variant}
use Rattle.y86_isa.specs.Table.{row}
use Rattle.y86_isa.specs.RowTests.{stores_val_a}
use Rattle.nets.specs.Nets.{Gates}
use Rattle.ctl_atoms.specs.declared.leaf.Atom.{Atom}
use Rattle.ctl_atoms.specs.Leaves.{Assignment}
use Rattle.pipe_fields.specs.Layout.{Fields, bit_count}
use Rattle.pipe_fields.specs.Allowed.{allowed}
use Rattle.pipe_motion.specs.Flow.{Flow, flow_legal}
use Rattle.pipe_motion.specs.declared.settings.Settings.{Settings}
use Rattle.pipe_obligations.specs.StageFlows.{is_jump, no_load_use_in_e, back_matches, back_matches_all, legal, is_stopping}
use Rattle.dp_signals.specs.PipeNames as signal

-- the net has a variable for each bit of a field and each atom, and there are at most 64 atoms
pub record HasAtomVariables (net : Gates) (atoms : List Atom) : Type 0 where
  pub vars : bit_count + length atoms ≤ net.vars
  pub few : length atoms ≤ 64

-- the register that M loads is a source of E whose value E needs now
abbrev pub awaits_load : Variant → Bool → Fields → Bool
awaits_load v lf c = c.m.dst_m == c.e.src_b || (c.m.dst_m == c.e.src_a && not (lf && stores_val_a (row v c.e.icode).memory))

-- for the jumps in D and E, and with tv in M, the atoms are the back bits
abbrev pub back_matches_in_stages : Variant → Bool → List Atom → Fields → Flow → Assignment → Bool
back_matches_in_stages v tv atoms c y α =
    back_matches atoms α signal.D_valC signal.D_valP (y.d.good && is_jump v c.d.stat c.d.icode) c.d.back
    && (back_matches atoms α signal.E_valC signal.E_valA (y.e.good && is_jump v c.e.stat c.e.icode) c.e.back
    && (not tv || back_matches atoms α signal.M_valE signal.M_valA (y.m.good && is_jump v c.m.stat c.m.icode) c.m.back))

-- legal, by the settings and the flow of the stages
unfoldable pub legal_with : Variant → Settings → List Atom → Fields → Flow → Assignment → Bool
legal_with v s atoms c y α = flow_legal s.je s.rm y && (no_load_use_in_e v s.lf c y && back_matches_all v s.tv atoms c y α)

-- an allowed and legal valuation, in a cycle that doesn't stop, or (always) in any
unfoldable pub premise_when : Variant → Settings → List Atom → Bool → Fields → Assignment → Bool
premise_when v s atoms always c α = allowed v c && (legal v s atoms c α && (always || not (is_stopping c)))
