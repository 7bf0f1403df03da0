pub mod Parts
pub mod Reading
pub mod Exactness
pub mod Spelling
pub mod Codes
pub mod Gives
