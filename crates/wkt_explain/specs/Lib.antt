pub mod Hints
pub mod Problems
