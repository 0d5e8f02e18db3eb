pub mod FormingLemmas
pub mod WorkingLemmas
pub mod JobLemmas
pub mod NothingLemmas
pub mod HoldLemmas
pub mod FirstLemmas
pub mod AnswerLemmas
