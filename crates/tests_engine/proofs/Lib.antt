pub mod Apart
pub mod Cuts
pub mod Later
pub mod Tabled
pub mod Numbers
pub mod Numbered
