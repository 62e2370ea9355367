use Rattle.std.proofs.Common.{◌∙◌, sym, subst}
use Rattle.cert_checker.specs.Certificates.{StatesNoSettings}
use Rattle.cert_checker.proofs.Heads.{states_none, states_some}
use Rattle.cert_checker.proofs.heading.stated.Goals as goal

pub returns-then-not-starts_with-2-clause-none : goal.returns-then-not-starts_with-2-clause-none
returns-then-not-starts_with-2-clause-none c =
    subst (StatesNoSettings c.args.bytes.now) (sym c.syntax_at-then-not-starts_with-2.ensures)
    (states_none c.args.bytes.now c.as_slice.result.now c.settings_at-settings.result (sym c.starts_with.ensures.value ∙ c.if-not-starts_with.false) c.settings_at-settings.ensures
    (c.as_slice.ensures.value ∙ c.in-Ok.ensures) (sym c.starts_with-2.ensures.value ∙ c.if-not-starts_with-2.true))

pub returns-clause-states : goal.returns-clause-states
returns-clause-states c =
    (states_some c.args.bytes.now c.as_slice.result.now c.settings_at-settings.result (sym c.starts_with.ensures.value ∙ c.if-not-starts_with.false) c.settings_at-settings.ensures
    (c.as_slice.ensures.value ∙ c.in-Ok.ensures) (sym c.starts_with-2.ensures.value ∙ c.if-not-starts_with-2.false)).0

pub returns-clause-long : goal.returns-clause-long
returns-clause-long c =
    (states_some c.args.bytes.now c.as_slice.result.now c.settings_at-settings.result (sym c.starts_with.ensures.value ∙ c.if-not-starts_with.false) c.settings_at-settings.ensures
    (c.as_slice.ensures.value ∙ c.in-Ok.ensures) (sym c.starts_with-2.ensures.value ∙ c.if-not-starts_with-2.false)).1
