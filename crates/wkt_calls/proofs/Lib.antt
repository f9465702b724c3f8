pub mod Pieces
pub mod Padded
pub mod Few
pub mod FewEvents
pub mod InDialects
pub mod Columns
pub mod Telling
