-- The definitions of this crate.
pub mod Plans
pub mod PlanExamples
pub mod Merges
pub use Rattle.tab_table.specs.Sizes
