pub mod Types
pub mod TypeView
pub mod TypeFalls
pub mod Entries
pub mod Follows
pub mod Tables
pub mod FollowsExamples
