pub mod InBlocks
pub mod Stretches
pub mod Whole
pub mod Growing
pub mod Handing
pub mod Anew
pub mod OneHistory
pub mod Alike
