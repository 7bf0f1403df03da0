pub mod Words
pub mod Carried
pub mod Lines
pub mod Counting
pub mod Shell
pub mod Parts
