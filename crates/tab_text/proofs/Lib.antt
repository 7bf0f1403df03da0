pub mod Exactness
pub mod LineLemmas
pub mod Spelling
pub mod Writing
