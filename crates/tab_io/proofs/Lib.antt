pub mod Blocks
pub mod Each
pub mod Finding
pub mod Known
pub mod Putting
