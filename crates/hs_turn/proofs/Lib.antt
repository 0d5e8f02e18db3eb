pub mod PrefixLemmas
pub mod SeatLemmas
pub mod EventLemmas
pub mod KindLemmas
