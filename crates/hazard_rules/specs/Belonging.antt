-- Parts that belong to a design: what its settings and its obligations are built from.
use Rattle.std.specs.Prelude.{List}
use Rattle.hcl_types.specs.declared.term.Term.{Term}
use Rattle.hazard_rules.specs.declared.parts.Parts.{Parts}
use Rattle.hazard_rules.specs.Designs.{IsTranslated}
use Rattle.hazard_rules.specs.Parts.{AreEarlyGates}

-- The parts belong to a design with these definitions. Their net has one variable for each bit of a control
-- valuation, their gates of names encode the design's control values, and their atoms are the design's (names); their
-- gates pt, pb and tv decide the design's settings (settings).
pub record BelongTo (terms : List Term) (p : Parts) : Type 0 where
  pub names : IsTranslated terms p.net p.ctl p.atoms.items
  pub settings : AreEarlyGates p.variant terms p.net p.pt p.pb p.tv

-- the parts belong to some design
pub record Belong (p : Parts) : Type 0 where
  pub terms : List Term
  pub to : BelongTo terms p
