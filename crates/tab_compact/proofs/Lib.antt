-- The lemmas of this crate.
pub mod Plans
pub mod Inputs
pub mod BySize
pub mod Together
