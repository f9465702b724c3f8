pub mod Output
pub mod Laws
pub mod Replies
pub mod First
pub mod Lines
pub mod Streaming
pub mod Reading
pub mod Buffers
