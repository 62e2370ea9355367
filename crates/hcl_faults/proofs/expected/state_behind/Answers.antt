use Rattle.std.proofs.Common.{arith, sym, subst}
use Rattle.hcl_faults.proofs.Runs.{Reached, reached_first, reached_end, reached_step, reached_refused}
use Rattle.hcl_faults.proofs.expected.state_behind.Goals as goal

pub tokens-init : goal.tokens-init
tokens-init c = subst (λ s. Reached c.args.text.now 0 s c.args.text.now) (sym c.start-state.ensures) (reached_first c.args.text.now)

pub returns-in-Ok-None : goal.returns-in-Ok-None
returns-in-Ok-None c =
    let e = rw c.in-Ok-None.field-0-is at c.in-Ok-None.ensures in
    reached_end c.args.text.now c.tokens.rest.now c.after_gap.result.now c.tokens._done c.args.count c.tokens.state c.tokens.invariant c.after_gap.ensures.value e (omega arith)

pub returns-in-Err-step : goal.returns-in-Err-step
returns-in-Err-step c =
    let e = rw c.in-Ok-Some.field-0-is at c.in-Ok-Some.ensures in
    reached_refused c.args.text.now c.tokens.rest.now c.after_gap.result.now c.in-Ok-Some.token c.in-Ok-Some.behind.now c.tokens._done c.args.count c.tokens.state c.in-Err-step.why
    c.tokens.invariant c.after_gap.ensures.value e (omega arith) c.in-Err-step.ensures

pub tokens-preserved : goal.tokens-preserved
tokens-preserved c =
    let e = rw c.in-Ok-Some.field-0-is at c.in-Ok-Some.ensures in
    reached_step c.args.text.now c.tokens.rest.now c.after_gap.result.now c.in-Ok-Some.token c.in-Ok-Some.behind.now c.tokens._done c.tokens.state c.in-Ok.next
    c.tokens.invariant c.after_gap.ensures.value e c.in-Ok.ensures
