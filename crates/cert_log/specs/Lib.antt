pub mod DesignDemands
pub mod Files
