pub mod Interned
pub mod Translations
pub mod Nodes
pub mod Unions
