-- The demands, and their certificate.
use Rattle.std.proofs.Common.{◌≡◌, ⊎_elim, ℕ, ◌+◌, ◌<◌, ◌≤◌, Bool, true, List, ◌++◌, length, get_or, slice_get, Some, sym, ap, ◌∙◌, append_assoc, subst, arith}
use Rattle.std.proofs.lemmas.Bool.{cases_lt}
use Rattle.std.proofs.lemmas.Option.{get_or_from_slice_get, slice_get-get_or, slice_get_within}
use Rattle.nets.specs.Nets.{truth}
use Rattle.bdd_core.specs.Diagrams.{Diagrams}
use Rattle.bdd_core.specs.Meaning.{Always, IsLeastFalsifying, truth_of}
use Rattle.bdd_core.specs.declared.store.Dia.{Dia}
use Rattle.pipe_motion.specs.declared.settings.Settings.{Settings}
use Rattle.verdict_text.specs.PipeLines.{pipe_yes}
use Rattle.cert_checker.specs.Certificates.{CertOk, first_line, head_text, last_line}
use Rattle.cert_checker.specs.Certificates as spec
use Rattle.cert_checker.specs.declared.known.TermDef.{TermDef}
use Rattle.cert_checker.specs.declared.demands.Demands.{Demands}
use Rattle.cert_writer.specs.Nodes.{IsDrawn, IsVariableOrder, no_dia, places_of}
use Rattle.cert_writer.specs.Terms.{AreOrdered}
use Rattle.cert_writer.specs.Writing.{AreGateTerms, AreInside, AreNamed, AreDemandsTrue, HasFalseDemand}
use Rattle.cert_writer.proofs.Ordered.{constant}
use Rattle.cert_writer.proofs.Nodes.{nets_length, nets_of, places_length, places_onto}

pub want_inside : (g : Demands) (k : ℕ) → AreInside g → k < length g.want → get_or g.want k 0 < length g.net.gates
want_inside g k inside h = inside k (get_or g.want k 0) (slice_get-get_or g.want k 0 h)

pub open_at : (g : Demands) (order ranks : List ℕ) (s : Diagrams) (dias : List Dia) (k : ℕ) (bits : List Bool) → AreInside g → length order ≡ g.net.vars → IsVariableOrder order ranks → IsDrawn g.net order s dias → k < length g.want →
    IsLeastFalsifying s (get_or dias (get_or g.want k 0) no_dia) bits → HasFalseDemand g
open_at g order ranks s dias k bits inside vars o d h f =
    let whole : length bits ≡ length order = f.size ∙ d.vars in
    let size : length (nets_of ranks bits) ≡ length order = nets_length ranks bits ∙ o.size in
    record {
      k = k;
      gate = get_or g.want k 0;
      pattern = nets_of ranks bits;
      is = slice_get-get_or g.want k 0 h;
      size = size ∙ vars;
      fails =
          sym (d.is (get_or g.want k 0) (want_inside g k inside h) (nets_of ranks bits) size)
          ∙ ap (truth_of s (get_or dias (get_or g.want k 0) no_dia)) (places_onto order ranks o bits whole)
          ∙ f.fails;
    }

-- each demanded gate so far is true at every pattern
pub record AreTrueTo (g : Demands) (n : ℕ) : Type 0 where
  pub each : (k : ℕ) → k < n → (w : List Bool) → length w ≡ g.net.vars → truth g.net (get_or g.want k 0) w ≡ true

pub true_none : (g : Demands) → AreTrueTo g 0
true_none g = record { each = λ k h. absurd (omega (arith, h)) }

pub true_more : (g : Demands) (order : List ℕ) (s : Diagrams) (dias : List Dia) (k : ℕ) → AreInside g → length order ≡ g.net.vars → IsDrawn g.net order s dias → k < length g.want → AreTrueTo g k →
    Always s (get_or dias (get_or g.want k 0) no_dia) true → AreTrueTo g (k + 1)
true_more g order s dias k inside vars d h a always = record {
  each = λ j l w size. ⊎_elim
      (λ less. a.each j less w size)
      (λ past. (let same : k ≡ j = omega (arith, l, past) in
      subst (λ n. truth g.net (get_or g.want n 0) w ≡ true) same
      (sym (d.is (get_or g.want k 0) (want_inside g k inside h) w (size ∙ sym vars)) ∙ always (places_of order w) (places_length order w ∙ sym d.vars))))
      (cases_lt j k);
}

pub true_all : (g : Demands) (n : ℕ) → length g.want ≤ n → AreTrueTo g n → AreDemandsTrue g
true_all g n h a = record {
  each = λ k i is w size. (let l = slice_get_within g.want k i is in
      ap (λ x. truth g.net x w) (sym (get_or_from_slice_get g.want k i 0 is)) ∙ a.each k (omega (arith, l, h)) w size);
}

pub head_put : (s : Settings) (old middle new line : List ℕ) → line ≡ pipe_yes s → middle ≡ old ++ first_line → new ≡ middle ++ line → new ≡ old ++ head_text s
unfolding spec.head_text
head_put s old middle new line e f g = g ∙ (λ i. f i ++ e i) ∙ append_assoc old first_line (pipe_yes s)

-- each demanded gate has term 1, truth
pub want_one : (g : Demands) (ranks : List ℕ) (terms : List TermDef) (ts : List ℕ) → AreOrdered ranks terms → length ranks ≡ g.net.vars → AreInside g → AreDemandsTrue g → AreGateTerms g.net (length ranks) terms ts (length g.net.gates) →
    (k w : ℕ) → slice_get g.want k ≡ Some w → slice_get ts w ≡ Some 1
want_one g ranks terms ts o vars inside shut all k w is =
    let h = inside k w is in
    let t = all.each w h in
    let one : get_or ts w 0 ≡ 1 = constant ranks terms o (get_or ts w 0) true t.within (λ u size. t.is u size ∙ shut.each k w is u (size ∙ vars)) in
    slice_get-get_or ts w 0 (let s = all.size in omega (arith, h, s)) ∙ ap Some one

pub named : (vars : ℕ) (ranks : List ℕ) (terms : List TermDef) → AreOrdered ranks terms → length ranks ≡ vars → AreNamed vars terms
named vars ranks terms o size = record {
  var = λ k m is. (let x = o.within k m is in omega (arith, x, size));
  low = o.low;
  high = o.high;
}
