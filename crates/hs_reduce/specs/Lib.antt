pub mod Graph
pub mod Path
pub mod Replays
pub mod Trace
pub mod Advances
pub mod Bounds
