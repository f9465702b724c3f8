pub mod ValueFromEvents
pub mod TreeHolds
pub mod Reading
pub mod ReadValues
