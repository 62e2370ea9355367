use Rattle.std.proofs.Common.{◌∙◌, ap, nat_eq}
use Rattle.std.specs.Cmp.Lexicographic.{pointwise}
use Rattle.hcl_binding.specs.Binding.{place}
use Rattle.hcl_binding.specs.Places.{bytes_of}
use Rattle.hcl_binding.proofs.Naming.{position_of_map}
use Rattle.hcl_binding.proofs.places.NameIndex.find.Goals as goal

pub returns-in-Some : goal.returns-in-Some
returns-in-Some c = c.in-Some.ensures.index ∙ position_of_map bytes_of (pointwise nat_eq c.args.name.now) c.self.inside.names.keys ∙ ap (λ names. place names c.args.name.now) c.self.view_is

pub returns-in-None : goal.returns-in-None
returns-in-None c = c.in-None.ensures.index ∙ position_of_map bytes_of (pointwise nat_eq c.args.name.now) c.self.inside.names.keys ∙ ap (λ names. place names c.args.name.now) c.self.view_is
