use Rattle.std.proofs.Common.{◌≡◌, ℕ, zero, suc, ◌≤◌, true, length, refl, sym, arith}
use Rattle.std.proofs.Math.ListN.{get_or-eq_default}
use Rattle.std.proofs.lemmas.Result.{IfOk-weaker}
use Rattle.y86_isa.specs.declared.columns.Row.{Row}
use Rattle.ctl_atoms.specs.declared.leaf.Leaf.{Leaf}
use Rattle.ctl_atoms.specs.Leaves.{Assignment}
use Rattle.ctl_rules.proofs.Kept.{asked_as, asked_gate}
use Rattle.dp_signals.specs.declared.sequential_rows.SignalRows.{SignalRows}
use Rattle.seq_obligations.specs.Fields.{Fields}
use Rattle.seq_obligations.specs.Obligations.{rule_count, shared_demand, shared_demands}
use Rattle.seq_obligations.specs.Signals.{fields_at}
use Rattle.seq_obligations.proofs.demands.DemandRowGates.at_row.Goals as goal

-- a number that no rule has demands nothing
asked_nothing : (s : SignalRows) (r : Row) (x : Fields) (α : Assignment) (cv : ℕ → Leaf) (n : ℕ) → (1 ≤ n → rule_count ≤ n) → shared_demand s n r x α cv ≡ true
asked_nothing s r x α cv zero h = refl
asked_nothing s r x α cv (suc n) h =
    let past : length (shared_demands s r x α cv) ≤ n = omega (arith, h (omega arith)) in
    get_or-eq_default (shared_demands s r x α cv) true past

pub returns-in_default-clause-has_truth : goal.returns-in_default-clause-has_truth
returns-in_default-clause-has_truth c = IfOk-weaker c.constant.result _ _
    (λ _ made. asked_as (asked_gate made) (λ w α cv. sym (asked_nothing c.args.self.now.signals c.args.row (fields_at c.args.self.now.line w c.args.icode) α cv c.args.self.now.number (λ ge. omega (arith, c.in_default, ge)))))
    c.constant.ensures.has_truth
