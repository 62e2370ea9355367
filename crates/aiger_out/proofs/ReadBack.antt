-- The reader accepts what the writer wrote, unless it is too large.
use Rattle.std.proofs.Common.{◌≡◌, ℕ, ◌+◌, ◌≤◌, ◌<◌, Bool, true, false, not, ◌||◌, ◌==◌, nat_lt, max, if◌then◌else◌, List, length, get_or, Option, Some, None, refl, sym, ap, ◌∙◌, subst, arith}
use Rattle.std.proofs.lemmas.Bool.Decides.{nat_tests}
use Rattle.nets.specs.Nets.{Gates, truth}
use Rattle.aiger_out.specs.declared.fault.AagFault.{AagFault}
use Rattle.aiger_out.specs.declared.fault.AagWhy.TheVariants.{Latches, TooMany}
use Rattle.aiger_out.specs.declared.form.Header.{Header}
use Rattle.aiger_out.specs.Form.{IsAag, IsFault, first_of, header_fault, text_header}
use Rattle.aiger_out.specs.Values.{IsNetOfText, Out, AreValues}
use Rattle.aiger_out.specs.Written.{IsAagOf}
use Rattle.aiger_out.proofs.OneAnswer.{not_both, one_solution}

-- a header without a fault has no latches, and enough variables for its inputs and ANDs
no_fault : (latches most outputs room : Bool) → first_of latches Latches (first_of (most || outputs || room) TooMany None) ≡ None → (latches ≡ false) × (room ≡ false)
no_fault true most outputs room e = absurd (cc (e))
no_fault false true outputs room e = absurd (cc (e))
no_fault false false true room e = absurd (cc (e))
no_fault false false false true e = absurd (cc (e))
no_fault false false false false e = (refl, refl)

-- the form at another limit
pub form_at : (limit other : ℕ) (text : List ℕ) (h : Header) → IsAag limit text h → h.most ≤ other → h.outputs ≤ other → IsAag other text h
form_at limit other text h a most outputs =
    let plain = no_fault (not (h.latches == 0)) (nat_lt limit h.most) (nat_lt limit h.outputs) (nat_lt h.most (h.inputs + h.ands)) a.fine in
    let few : nat_lt other h.most ≡ false = grind (arith, nat_tests) in
    let short : nat_lt other h.outputs ≡ false = grind (arith, nat_tests) in
    record { header = a.header; fine = rw (plain.0, few, short, plain.1) refl; lines = a.lines }

pub reads_back : (net : Gates) (gates numbers text : List ℕ) (h : Header) → IsAagOf net gates numbers text h → net.vars + length net.gates ≤ 1000000 → length gates ≤ 1000000 → IsAag 1000000 text h
reads_back net gates numbers text h w small few =
    form_at (max h.most h.outputs) 1000000 text h w.form (omega (arith, w.small, small)) (omega (arith, w.outputs, few))

pub no_error : (net : Gates) (gates numbers text : List ℕ) (h : Header) (f : AagFault) → IsAagOf net gates numbers text h → net.vars + length net.gates ≤ 1000000 → length gates ≤ 1000000 →
    IsFault 1000000 text f.line f.why → ⊥
no_error net gates numbers text h f w small few fault = not_both 1000000 text h f.line f.why (reads_back net gates numbers text h w small few) fault

-- an output has one value, since the equations have a solution
one_value : (limit : ℕ) (text : List ℕ) (h : Header) (i : ℕ) (bits : List Bool) (a b : Bool) → IsAag limit text h → Out h text i bits a → Out h text i bits b → a ≡ b
one_value limit text h i bits a b form x y =
    let solution = (one_solution limit text h bits form).some in
    sym (x.is solution.0 solution.1) ∙ y.is solution.0 solution.1

some_header : (text : List ℕ) (h k : Header) → text_header text ≡ Some h → text_header text ≡ Some k → h ≡ k
some_header text h k e f = let same : Some h ≡ Some k = sym e ∙ f in cc (same)

pub same_truths : (net : Gates) (gates numbers text : List ℕ) (h k : Header) (back : Gates) (outs : List ℕ) (i : ℕ) (bits : List Bool) → IsAagOf net gates numbers text h → IsNetOfText 1000000 text back outs k →
    i < length gates → truth back (get_or outs i 0) bits ≡ not (truth net (get_or gates i 0) bits)
same_truths net gates numbers text h k back outs i bits w r low =
    let one : h ≡ k = some_header text h k w.form.header r.form.header in
    let inside : i < k.outputs = subst (λ (x : Header). i < x.outputs) one (omega (arith, w.outputs, low)) in
    let read : Out h text i bits (truth back (get_or outs i 0) bits) =
    subst (λ (x : Header). Out x text i bits (truth back (get_or outs i 0) bits)) (sym one) (r.truths i inside bits) in
    one_value (max h.most h.outputs) text h i bits (truth back (get_or outs i 0) bits) (not (truth net (get_or gates i 0) bits)) w.form read (w.values i low bits)
