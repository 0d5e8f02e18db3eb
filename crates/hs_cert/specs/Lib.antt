pub mod Certificate
pub mod Front
pub mod Misreading
pub mod Examples
