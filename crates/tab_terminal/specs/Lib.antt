pub mod Showing
pub mod Typing
