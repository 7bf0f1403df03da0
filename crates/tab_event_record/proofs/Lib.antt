pub mod Asked
pub mod Spelled
pub mod Written
pub mod Said
pub mod Handed
pub mod Comparing
