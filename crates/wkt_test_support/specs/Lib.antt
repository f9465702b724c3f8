pub mod Numbers
pub mod WrongNumbers
