pub mod Held
pub mod First
pub mod Uses
