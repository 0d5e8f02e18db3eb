pub mod ListLemmas
mod GrowLemmas
mod BecomingLemmas
mod PairLemmas
mod Equalities
mod SpreadLemmas
mod PushLemmas
mod ListingLemmas
mod HeadLemmas
mod HandedLemmas
mod HoldsLemmas
mod BelowLemmas
mod BitLemmas
mod RowLemmas
mod FoundLemmas
mod ArgumentLemmas
pub mod ReadLemmas
