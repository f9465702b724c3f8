pub mod Runs
pub mod RemainingLexemes
pub mod Utf8Lines
