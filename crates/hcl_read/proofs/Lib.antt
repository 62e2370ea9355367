pub mod Opened
pub mod Complete
pub mod Means
pub mod Sound
pub mod Live
pub mod Told
pub mod Exact
mod Stacks
mod Machines
mod NameSets
pub mod Items
mod Readings
pub mod LawLemmas
pub mod OneFault
