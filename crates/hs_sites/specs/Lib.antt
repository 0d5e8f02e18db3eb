pub mod Listed
pub mod Walks
pub mod Reaching
pub mod Collecting
