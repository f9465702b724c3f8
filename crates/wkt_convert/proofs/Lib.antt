pub mod Opened
pub mod OpenedFlat
pub mod OpenedBack
pub mod PlainComesBack
pub mod FlatAndBackShapes
pub mod FlatKinds
