pub mod Premises
pub mod Works
pub mod Logs
pub mod Sound
pub mod Once
pub mod Histories
