pub mod WeaklyTyped
pub mod Built
