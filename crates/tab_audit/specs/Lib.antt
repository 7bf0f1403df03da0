pub mod Entries
pub mod Lists
pub mod Pieces
pub mod Words
