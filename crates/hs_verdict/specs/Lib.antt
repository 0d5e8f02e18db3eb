pub mod Premises
pub mod Terms
pub mod Closures
pub mod Typed
pub mod Evidence
pub mod Naming
pub mod Leading
pub mod NamingExamples
