pub mod Texts
pub mod ShortTexts
pub mod TextBuilderOutput
