pub mod Ends
pub mod Gaining
pub mod TerminalLemmas
pub mod RowLemmas
pub mod Splitting
pub mod HeadLemmas
pub mod Staying
