pub mod Facts
pub mod Parts
