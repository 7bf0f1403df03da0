pub mod Given
pub mod Concerns
pub mod Views
pub mod Hearing
pub mod Noninterference
pub mod Examples
