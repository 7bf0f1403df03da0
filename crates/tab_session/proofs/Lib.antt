pub mod Marks
pub mod Taken
pub mod Batches
pub mod InRange
pub mod Placing
pub mod Shares
pub mod Begun
