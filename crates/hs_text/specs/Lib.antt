pub mod Canonical
pub mod Pieces
pub mod Report
pub mod ReportExamples
