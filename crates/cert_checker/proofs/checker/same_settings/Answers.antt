use Rattle.std.proofs.Common.{◌∙◌, sym, ap}
use Rattle.std.proofs.lemmas.Bool.{false≢true}
use Rattle.pipe_motion.specs.declared.settings.Settings.{Settings}
use Rattle.cert_checker.proofs.Same.{alike, alike_same, same_alike}
use Rattle.cert_checker.proofs.checker.same_settings.Goals as goal

pub returns-clause-same : goal.returns-clause-same
returns-clause-same c = λ e. alike_same c.args.a.now c.args.b.now (sym c.eq.ensures ∙ e)

pub returns-clause-others : goal.returns-clause-others
returns-clause-others c = λ e same. false≢true (sym e ∙ c.eq.ensures ∙ ap (λ (s : Settings). alike s c.args.b.now) same ∙ same_alike c.args.b.now)
