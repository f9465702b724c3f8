pub mod Written
pub mod TextBuilderMaker
pub mod Spaces
pub mod Canonical
pub mod Through
