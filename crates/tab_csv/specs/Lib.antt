pub mod Columns
pub mod Meaning
pub mod CsvLines
pub mod CsvTexts
pub mod Parts
pub mod Rows
