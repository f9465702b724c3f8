pub mod Growing
pub mod Trees
pub mod Values
pub mod Laws
