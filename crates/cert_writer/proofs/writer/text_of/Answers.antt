use Rattle.std.proofs.Common.{◌≡◌, ◌++◌, List, ℕ, length, ap, subst, sym, ◌∙◌}
use Rattle.cert_checker.specs.Certificates.{head_text}
use Rattle.cert_checker.specs.declared.known.TermDef.{TermDef}
use Rattle.cert_writer.specs.Writing.{AreGateTerms, AreClaims}
use Rattle.cert_writer.proofs.Writing.{wrote_start, wrote_end}
use Rattle.cert_writer.proofs.Claimed.{are_gates}
use Rattle.cert_writer.proofs.Demanded.{want_one}
use Rattle.cert_writer.proofs.writer.text_of.Goals as goal

pub put_terms-requires-clause-wrote : goal.put_terms-requires-clause-wrote
put_terms-requires-clause-wrote c =
    wrote_start c.args.g.now c.put_head.new.out.items c.put_head.ensures.seven (c.in_ok-put_head.ensures.put ∙ ap (λ (xs : List ℕ). xs ++ head_text c.args.g.now.settings) c.new-out.ensures.items)

pub put_gates-requires-clause-gates : goal.put_gates-requires-clause-gates
put_gates-requires-clause-gates c =
    let terms : c.gate_claims.new.self.terms ≡ c.args.terms.now.terms = (c.gate_claims.ensures.kept).terms ∙ c.in_ok-claims.ensures.terms ∙ c.made.ensures.has_truth in
    are_gates c.args.g.now.net c.gate_claims.new.self (length c.args.terms.now.order) c.args.ts.now c.as_slice.result.now
    (subst (λ (xs : List TermDef). AreGateTerms c.args.g.now.net (length c.args.terms.now.order) xs c.args.ts.now (length c.args.g.now.net.gates)) (sym terms) c.requires.terms)
    (subst (λ (xs : List ℕ). AreClaims c.args.g.now.net c.gate_claims.new.self c.args.ts.now xs (length c.args.g.now.net.gates)) (sym c.as_slice.ensures.value) c.in_ok-by.ensures.claims)

pub returns : goal.returns
returns c =
    let written = c.made.ensures.written in
    let ranks : length c.args.terms.now.ranks ≡ length c.args.terms.now.order = (written.order).size in
    wrote_end c.args.g.now c.put_gates.new.out.items c.put.new.out.items _ c.in_ok-put_gates.ensures c.requires.terms.size
    (want_one c.args.g.now c.args.terms.now.ranks c.args.terms.now.terms c.args.ts.now written.ordered (ranks ∙ c.requires.vars) c.requires.inside c.requires.shut
    (subst (λ k. AreGateTerms c.args.g.now.net k c.args.terms.now.terms c.args.ts.now (length c.args.g.now.net.gates)) (sym ranks) c.requires.terms))
    c.in_ok-put.ensures
