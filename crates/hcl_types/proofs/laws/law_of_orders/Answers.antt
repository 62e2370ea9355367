use Rattle.std.proofs.Common.{◌<◌, length, slice_set}
use Rattle.hcl_types.specs.Terms.{at}
use Rattle.hcl_types.proofs.Orders.{solved, unique}
use Rattle.hcl_types.proofs.Stores.{list_store}
use Rattle.hcl_types.proofs.laws.law_of_orders.Goals as goal

pub returns-clause-solved : goal.returns-clause-solved
returns-clause-solved c = λ needs known ids rule vals o local inside given.
    solved at slice_set (λ s n. n < length s) list_store rule needs known local vals ids o inside given

pub returns-clause-unique : goal.returns-clause-unique
returns-clause-unique c = λ needs known ids rule o local given f g fixed fixed'. unique needs known ids o rule local given f g fixed fixed'
