pub mod NameLemmas
pub mod Decided
pub mod EntryLemmas
pub mod Readings
pub mod Changes
pub mod RightsLemmas
pub mod LivesLemmas
pub mod HolderLemmas
