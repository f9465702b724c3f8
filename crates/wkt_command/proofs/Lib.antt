pub mod Canonizing
pub mod InDialects
pub mod TextLines
