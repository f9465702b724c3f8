pub mod Members
pub mod FirstErrors
pub mod Bracketed
pub mod Writable
