pub mod Points
pub mod Rows
pub mod Flow
pub mod FlowRows
pub mod Dependents
pub mod PointsExamples
