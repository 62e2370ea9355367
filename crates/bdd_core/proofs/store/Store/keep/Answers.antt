use Rattle.std.proofs.Common.{rules, ◌≡◌, ◌⊎◌, subst, sym, List, ℕ, length, drop, slice_get, Some}
use Rattle.std.proofs.lemmas.List.{take_at}
use Rattle.bdd_core.specs.Diagrams.{Diagrams}
use Rattle.bdd_core.specs.Answers.{IsAnswer, AreAnswers}
use Rattle.bdd_core.specs.declared.results.CachedResult.{CachedResult}
use Rattle.bdd_core.proofs.Applying.{remembered}
use Rattle.bdd_core.proofs.store.Store.keep.Goals as goal

pub invariant_of-self : goal.invariant_of-self
invariant_of-self c =
    let old : List CachedResult = c.self.inside.results.items in
    let new : List CachedResult = c.remember.new.entries in
    let answer : IsAnswer c.self.inside.nodes c.args.key c.args.answer = subst (λ (s : Diagrams). IsAnswer s c.args.key c.args.answer) (sym c.self.view_is) c.requires in
    let keeps : (i : ℕ) (e : CachedResult) → slice_get new i ≡ Some e → (slice_get old i ≡ Some e) ⊎ (e ≡ record { key = c.args.key; answer = c.args.answer }) =
    subst (λ (xs : List CachedResult). (i : ℕ) (e : CachedResult) → slice_get new i ≡ Some e → (slice_get xs i ≡ Some e) ⊎ (e ≡ record { key = c.args.key; answer = c.args.answer })) c.as_mut_slice.ensures.value c.remember.ensures in
    let size : length new ≡ c.self.inside.results.len = search rules in
    subst (AreAnswers c.self.inside.nodes) (sym (take_at new (drop (length new) old) c.self.inside.results.len size))
    (remembered c.self.inside.nodes old new c.args.key c.args.answer c.self.invariant answer keeps)
