-- The definitions of this crate.
pub mod Lists
pub mod Positions
pub mod Layers
pub mod Columns
pub mod Both
pub mod LastColumn
pub mod Verdicts
pub mod Bags
pub mod Stack
pub mod SourceLaws
pub mod Propositions
pub mod TopPrefix
pub mod NamedColumns
