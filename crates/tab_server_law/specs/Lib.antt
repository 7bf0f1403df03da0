pub mod ServerNoninterference
pub mod Examples
