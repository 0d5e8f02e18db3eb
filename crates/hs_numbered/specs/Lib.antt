pub mod Trees
pub mod Certificates
