pub mod Outcomes
pub mod Programs
