pub mod Key
pub mod Place
pub mod Verdict
pub mod Dialects
pub mod Canon
pub mod Row
