-- SEQ+'s table of signals (CS:APP 3e, section 4.5.1, figure 4.40): that of SEQ, but the file defines pc in place of
-- new_pc, and the state holds what the previous instruction left.
use Rattle.std.specs.Prelude.{List, [], ◌∷◌, ◌++◌, codes}
use Rattle.hcl_types.specs.declared.table.Class.TheVariants.{Code, Value, Truth}
use Rattle.hcl_types.specs.declared.table.Role.TheVariants.{State, Defined}
use Rattle.hcl_types.specs.declared.table.Row.{Row}
use Rattle.dp_signals.specs.Tables.{constant_rows, signal}
use Rattle.dp_signals.specs.SequentialTables.{control_rows, hardware_rows}
use Rattle.seq_plus.specs.PlusNames.{plus}

-- the signals of the state
unfoldable pub plus_state : List Row
plus_state =
    signal Code State (codes "pIcode") ∷
    signal Truth State (codes "pCnd") ∷
    signal Value State (codes "pValM") ∷
    signal Value State (codes "pValC") ∷
    signal Value State (codes "pValP") ∷ []

-- the signals that hardware computes, with the rows on which they depend: pc is one of these for everything that is
-- fetched
unfoldable pub plus_hardware : List Row
plus_hardware = hardware_rows plus (plus.pc ∷ [])

-- the signals that the HCL file defines
unfoldable pub plus_defined : List Row
plus_defined = signal Value Defined (codes "pc") ∷ control_rows

unfoldable pub plus_rows : List Row
plus_rows = constant_rows ++ (plus_state ++ (plus_hardware ++ plus_defined))
