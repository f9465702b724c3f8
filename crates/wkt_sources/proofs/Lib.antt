pub mod ByteViews
pub mod TokenSteps
pub mod SourceRooms
pub mod TableMessages
pub mod NextLexeme
pub mod ByteSteps
pub mod FrontValues
