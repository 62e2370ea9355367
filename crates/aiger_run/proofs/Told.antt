-- The counts of a net that was read are those of the text.
use Rattle.std.proofs.Common.{◌≡◌, ℕ, List, get_or, ◌∙◌, subst, arith}
use Rattle.nets.specs.Nets.{Gates, truth}
use Rattle.aiger_out.specs.declared.form.Header.{Header}
use Rattle.aiger_out.specs.Values.{IsNetOfText, Out}
use Rattle.aiger_run.specs.Counts.{AreCounts}
use Rattle.aiger_run.specs.PrintedCounts.{PrintsCounts, counts_text}
use Rattle.aiger_run.specs.Vectors.{vector}

pub tells_counts : (text : List ℕ) (net : Gates) (outs : List ℕ) (h : Header) (seed : ℕ) (counts told : List ℕ) → IsNetOfText 1000000 text net outs h → AreCounts net outs seed counts → told ≡ counts_text counts
    → PrintsCounts text seed told
tells_counts text net outs h seed counts told r a is = record {
  header = h;
  form = r.form;
  counts = counts;
  size = a.size ∙ r.outputs;
  are = λ i l. record {
    value = λ p. truth net (get_or outs i 0) (vector seed p net.vars);
    outs = λ p low.
        subst (λ (n : ℕ). Out h text i (vector seed p n) (truth net (get_or outs i 0) (vector seed p net.vars))) r.inputs
        (r.truths i l (vector seed p net.vars));
    count = a.each i (omega (arith, l, r.outputs));
  };
  lines = is;
}
