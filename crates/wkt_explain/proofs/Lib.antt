pub mod StopsAreRefusals
pub mod BehindNul
mod Fewer
