pub mod ColumnDemands
pub mod ControlGates
