pub mod Written
pub mod Cells
pub mod SessionState
pub mod Compactions
pub mod Merged
pub mod MergedExamples
