use Rattle.hcl_types.specs.Terms.{word_meaning}
use Rattle.hcl_types.proofs.Related.{local_value}
use Rattle.hcl_types.proofs.laws.law_of_values.Goals as goal

pub returns : goal.returns
returns c = λ t f g h. local_value word_meaning f g t h
