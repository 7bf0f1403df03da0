pub mod ChoiceExamples
pub mod Choices
pub mod Clips
pub mod InTurn
pub mod OneOf
pub mod Shown
pub mod Sources
pub mod Versions
