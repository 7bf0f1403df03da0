pub mod Lasting
pub mod Recovered
pub mod Examples
