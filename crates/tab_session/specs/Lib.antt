pub mod Bookmarks
pub mod KeptVerdicts
pub mod LowEnds
pub mod OpenSession
