pub mod Policies
pub mod Tables
pub mod Loading
