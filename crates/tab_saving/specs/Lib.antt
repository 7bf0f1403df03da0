pub mod Existence
pub mod ImageOf
pub mod OneImage
pub mod Saves
pub mod Saving
pub mod Typed
