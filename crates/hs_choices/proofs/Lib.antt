pub mod Asking
pub mod Pruning
pub mod Growing
pub mod Adding
pub mod Choosing
pub mod Ordered
pub mod Staying
