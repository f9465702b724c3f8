pub mod Filled
pub mod Arrays
pub mod EventLists
