pub mod Failing
pub mod Lengthened
