pub mod Going
pub mod Progress
pub mod Answered
pub mod Beginnings
pub mod Calling
pub mod Taking
pub mod Crashed
pub mod Leaving
