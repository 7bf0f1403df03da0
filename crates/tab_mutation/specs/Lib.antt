pub mod Mutations
pub mod UpdateSpans
pub mod Shape
pub mod MutationFields
