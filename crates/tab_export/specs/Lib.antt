pub mod Places
pub mod Script
pub mod Parts
