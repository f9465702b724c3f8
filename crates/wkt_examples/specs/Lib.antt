pub mod Mine
pub mod Halves
pub mod Served
pub mod Empties
pub mod Copied
