pub mod Views
pub mod Wrapper
pub mod Sinks
pub mod Gathered
pub mod Growing
