pub mod Memo
pub mod Kinds
pub mod Remembered
