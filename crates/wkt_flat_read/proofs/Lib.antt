pub mod Holding
pub mod Ended
pub mod Flats
