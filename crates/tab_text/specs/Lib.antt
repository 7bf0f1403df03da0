pub mod Gives
pub mod Lines
pub mod Parts
pub mod Reading
pub mod Words
