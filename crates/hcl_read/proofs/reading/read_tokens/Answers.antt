use Rattle.std.proofs.Common.{refl}
use Rattle.hcl_read.proofs.Readings.{follows_start, follows_step, shrinks, found_at_end, stopped_at_end, stopped_here}
use Rattle.hcl_read.proofs.reading.read_tokens.Goals as goal

pub tokens-init : goal.tokens-init
tokens-init c = follows_start c.args.bytes.now _ _ _ c.new-names.ensures c.start-state.ensures c.after_gap-rest.ensures.value

pub returns-in-Ok-clause-file : goal.returns-in-Ok-clause-file
returns-in-Ok-clause-file c =
    let e = rw c.in-Ok-None.field-0-is at c.in-Ok-None.ensures in
    found_at_end c.args.bytes.now c.tokens.names c.tokens.state c.tokens.rest.now c.in-Ok.file e c.tokens.invariant c.in-Ok.ensures

pub returns-in-Err-ended-clause-stop : goal.returns-in-Err-ended-clause-stop
returns-in-Err-ended-clause-stop c =
    let e = rw c.in-Ok-None.field-0-is at c.in-Ok-None.ensures in
    stopped_at_end c.args.bytes.now c.tokens.names c.tokens.state c.tokens.rest.now _ c.in-Err-ended.why e c.tokens.invariant refl c.in-Err-ended.ensures

pub tokens-smaller : goal.tokens-smaller
tokens-smaller c =
    let e = rw c.in-Ok-Some.field-0-is at c.in-Ok-Some.ensures in
    shrinks c.tokens.rest.now c.in-Ok-Some.token c.in-Ok-Some.behind.now _ e c.after_gap-rest-in-Ok-take_token.ensures.value

pub tokens-preserved : goal.tokens-preserved
tokens-preserved c =
    let e = rw c.in-Ok-Some.field-0-is at c.in-Ok-Some.ensures in
    follows_step c.args.bytes.now c.tokens.names c.take_token.new.names c.tokens.state c.in-Ok-take_token.next c.tokens.rest.now c.in-Ok-Some.token c.in-Ok-Some.behind.now _
    c.tokens.invariant e c.in-Ok-take_token.ensures.taken c.after_gap-rest-in-Ok-take_token.ensures.value

pub returns-in-Err-take_token-clause-stop : goal.returns-in-Err-take_token-clause-stop
returns-in-Err-take_token-clause-stop c =
    let e = rw c.in-Ok-Some.field-0-is at c.in-Ok-Some.ensures in
    stopped_here c.args.bytes.now c.tokens.names c.tokens.state c.tokens.rest.now _ c.in-Err-take_token.why c.in-Ok-Some.token c.in-Ok-Some.behind.now
    c.tokens.invariant refl e c.in-Err-take_token.ensures.refused
