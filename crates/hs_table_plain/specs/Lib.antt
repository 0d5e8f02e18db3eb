pub mod Enumeration
