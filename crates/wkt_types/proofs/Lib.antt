pub mod Displays
pub mod TreeLemmas
pub mod Canonicals
