pub mod Listing
pub mod Capped
pub mod Tests
pub mod Reading
pub mod Taking
