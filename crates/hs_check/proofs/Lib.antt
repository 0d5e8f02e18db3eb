pub mod OwnNames
pub mod Accepting
pub mod OneAnswer
pub mod Running
pub mod Complying
pub mod Reported
pub mod SameMembers
