pub mod HeadTypes
pub mod Sources
pub mod Splits
