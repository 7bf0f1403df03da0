pub mod Lists
pub mod Rising
pub mod Written
pub mod OneAnswer
pub mod SeenColumns
pub mod RowsInRange
