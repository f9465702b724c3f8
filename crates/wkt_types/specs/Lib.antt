pub mod Held
pub mod Equal
pub mod Values
pub mod Canonical
pub mod Shown
pub mod Outcome
pub mod Tree
