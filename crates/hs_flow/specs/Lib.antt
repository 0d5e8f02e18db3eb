pub mod Lists
pub mod Bases
pub mod Users
pub mod Passing
pub mod Pairs
pub mod Analysis
pub mod Tables
pub mod Dependents
