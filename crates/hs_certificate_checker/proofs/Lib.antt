pub mod RowLemmas
pub mod CoverLemmas
pub mod ShapeLemmas
pub mod FlowLemmas
pub mod SettledLemmas
pub mod HeadLemmas
pub mod OpenLemmas
pub mod AmongLemmas
pub mod FlawLemmas
pub mod IdleLemmas
mod FaultLemmas
