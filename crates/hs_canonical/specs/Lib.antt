pub mod Publishing
pub mod Ranking
