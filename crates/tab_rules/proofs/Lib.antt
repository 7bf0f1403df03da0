pub mod Digits
pub mod FirstIndex
pub mod OneForm
