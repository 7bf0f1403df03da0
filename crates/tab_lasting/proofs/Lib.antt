pub mod Lasting
pub mod Recovered
