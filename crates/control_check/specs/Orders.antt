-- Orders of the variables of PIPE's formulas.
use Rattle.std.specs.Prelude.{ℕ}
use Rattle.std.specs.List.{range_with_len}
use Rattle.std.specs.List.Sorted.{IsPermutation}
use Rattle.control_check.specs.declared.variable_orders.OrderList.{OrderList}

-- each of the orders has each variable once
pub record AreOrders (vars : ℕ) (l : OrderList) : Type 0 where
  pub whole : IsPermutation (range_with_len 0 vars) l.whole
  pub part : IsPermutation (range_with_len 0 vars) l.part
  pub again : IsPermutation (range_with_len 0 vars) l.again
