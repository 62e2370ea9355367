-- The facts on which SEQ's rules depend, and those on which SEQ+'s do, too.
use Rattle.std.proofs.Common.{◌≡◌, ℕ, ◌+◌, ◌≤◌, ◌||◌, ◌∙◌, not, Bool, true, List, slice_get, refl, arith}
use Rattle.y86_base.specs.declared.parts.Variant.{Variant}
use Rattle.nets.specs.Nets.{Gates}
use Rattle.hcl_types.specs.Kinds.{kinds_of_row}
use Rattle.hcl_types.specs.declared.table.Row.{Row}
use Rattle.hcl_types.specs.declared.term.Term.{Term}
use Rattle.dp_signals.specs.SeqNames as signal
use Rattle.dp_signals.specs.SeqTable.{seq_rows, seq_state, seq_hardware, seq_defined}
use Rattle.dp_signals.specs.SequentialTables.{control_rows}
use Rattle.dp_signals.specs.Tables.{constant_rows}
use Rattle.dp_signals.specs.declared.sequential_rows.SignalRows.{SignalRows}
use Rattle.ctl_picks.specs.declared.controls.Entry.{Entry}
use Rattle.ctl_picks.specs.Picks.{Covers}
use Rattle.ctl_given.specs.Places.{HavePlaces, Spells}
use Rattle.ctl_rules.specs.declared.rules.Rule.{Rule}
use Rattle.seq_obligations.specs.Fields.{allowed, bit_count, fields_of, line_at, line_from, number_of, seq_line}
use Rattle.seq_obligations.specs.Obligations.{demand_at, seq_signals}
use Rattle.seq_obligations.specs.Rules.{AreDesignedRules, AreSeqRules}
use Rattle.seq_obligations.specs.Signals.{HasLine, IsReady, IsSeqReady, Within, places}

-- the fields of a line are among the variables, if its last one is
has_line : (first vars : ℕ) → Within vars (line_from first).derror → HasLine (line_from first) vars
has_line first vars le =
    record { error = omega arith; icode = omega arith; ifun = omega arith; r_a = omega arith; r_b = omega arith; cnd = omega arith; derror = le; four = refl }

-- the signals that the rules of SEQ and SEQ+ use have control values, if the rows of a datapath's table have them
module _ (rows : List Row) (s : SignalRows) (first vars : ℕ) (ctl : List Entry) (c : Covers rows ctl) where
  abbrev Word : ℕ → Type 0
  Word n = (kinds_of_row (slice_get rows n)).word ≡ true

  abbrev Truth : ℕ → Type 0
  Truth n = (kinds_of_row (slice_get rows n)).truth ≡ true

  pub shared_ready : Within vars (line_from first).derror
      → Word s.icode → Word s.ifun → Truth s.need_regids → Truth s.need_val_c → Word s.src_a → Word s.src_b → Word s.dst_e → Word s.dst_m
      → Word s.alu_a → Word s.alu_b → Word s.alufun → Truth s.set_cc → Word s.mem_addr → Truth s.mem_read → Truth s.mem_write → Word s.mem_data → Word s.stat
      → IsReady s (line_from first) vars ctl
  shared_ready le icode ifun need_regids need_val_c src_a src_b dst_e dst_m alu_a alu_b alufun set_cc mem_addr mem_read mem_write mem_data stat = record {
    line = has_line first vars le;
    icode = c.picks s.icode ∙ icode;
    ifun = c.picks s.ifun ∙ ifun;
    need_regids = c.gates s.need_regids ∙ need_regids;
    need_val_c = c.gates s.need_val_c ∙ need_val_c;
    src_a = c.picks s.src_a ∙ src_a;
    src_b = c.picks s.src_b ∙ src_b;
    dst_e = c.picks s.dst_e ∙ dst_e;
    dst_m = c.picks s.dst_m ∙ dst_m;
    alu_a = c.picks s.alu_a ∙ alu_a;
    alu_b = c.picks s.alu_b ∙ alu_b;
    alufun = c.picks s.alufun ∙ alufun;
    set_cc = c.gates s.set_cc ∙ set_cc;
    mem_addr = c.picks s.mem_addr ∙ mem_addr;
    mem_read = c.gates s.mem_read ∙ mem_read;
    mem_write = c.gates s.mem_write ∙ mem_write;
    mem_data = c.picks s.mem_data ∙ mem_data;
    stat = c.picks s.stat ∙ stat;
  }

-- the signals of SEQ's table have control values
pub ready_by : (vars : ℕ) (ctl : List Entry) → bit_count ≤ vars → Covers seq_rows ctl → IsSeqReady vars ctl
unfolding seq_rows constant_rows seq_state seq_hardware seq_defined control_rows
ready_by vars ctl le c =
    record { shared = shared_ready seq_rows seq_signals 0 vars ctl c le refl refl refl refl refl refl refl refl refl refl refl refl refl refl refl refl refl; new_pc = c.picks signal.new_pc }

-- each field of a signal is spelt at its place
pub spelt_at_places : (w : List Bool) → Spells places w (number_of (fields_of w))
unfolding fields_of
spelt_at_places w = (refl, (refl, (refl, (refl, (refl, (refl, (refl, tt)))))))

pub places_stand : (vars : ℕ) → bit_count ≤ vars → HavePlaces seq_rows places vars
unfolding seq_rows constant_rows seq_state seq_hardware seq_defined control_rows
places_stand vars le = record {
  placed = refl;
  inside = ((omega arith, omega arith), ((omega arith, omega arith), ((omega arith, omega arith), ((omega arith, omega arith), ((omega arith, omega arith), ((omega arith, omega arith), ((omega arith, omega arith), tt)))))));
}

-- the rules of SEQ, whose line is spelt at its places
pub rules_are : (v : Variant) (terms : List Term) (net : Gates) (list : List Rule)
    → AreDesignedRules seq_rows (λ w. number_of (fields_of w)) bit_count (λ i w α cv. not (allowed v (line_at seq_line w)) || demand_at v i (line_at seq_line w) α cv) terms net list
    → AreSeqRules v terms net list
unfolding fields_of line_at
rules_are v terms net list r = record {
  atoms = r.atoms;
  are = r.are;
  vars = r.vars;
  count = r.count;
  each = λ k x e. record { number = (r.each k x e).number; within = (r.each k x e).within; is = (r.each k x e).is };
}
