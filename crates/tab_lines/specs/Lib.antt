pub mod Gives
pub mod Words
pub mod Spelling
pub mod Fields
pub mod Updates
pub mod Lines
pub mod Forms
