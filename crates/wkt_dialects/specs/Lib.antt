pub mod Asked
pub mod Dialects
pub mod Exponents
pub mod Laws
pub mod Numbers
pub mod Pieces
pub mod Reading
pub mod Srids
