pub mod TraceText
pub mod Explained
