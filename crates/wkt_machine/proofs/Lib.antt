pub mod Complete
mod Places
pub mod BegunIsWalked
pub mod RoomForRest
pub mod Stepping
pub mod NumberSteps
pub mod StepsJoin
pub mod WaysJoin
pub mod Windows
pub mod ContextOfPlace
pub mod ExpectedIsTaken
pub mod WholeRuns
