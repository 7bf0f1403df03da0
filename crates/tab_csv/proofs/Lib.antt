pub mod NumberLemmas
pub mod FieldLemmas
pub mod LabelLemmas
pub mod RowLemmas
