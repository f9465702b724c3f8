pub mod Back
pub mod Flatten
pub mod Sent
pub mod Laws
pub mod Kinds
