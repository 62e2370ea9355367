pub mod StageFlows
pub mod Obligations
pub mod Rules
pub mod FileSettings
pub mod FlowLaws
