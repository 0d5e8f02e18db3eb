pub mod Inert
pub mod Order
pub mod Shape
pub mod Any
pub mod Numbers
pub mod Slots
pub mod Checked
