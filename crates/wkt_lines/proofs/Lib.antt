pub mod Answering
pub mod Outcomes
pub mod Lining
pub mod OutputBuffering
pub mod Wholes
