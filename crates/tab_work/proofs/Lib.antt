pub mod Booking
pub mod Counting
pub mod Handing
pub mod Joining
pub mod Keeping
pub mod Rotated
pub mod Following
pub mod Aims
