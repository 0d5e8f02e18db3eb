mod NumberLemmas
pub mod Closing
pub mod Fewer
pub mod Lists
