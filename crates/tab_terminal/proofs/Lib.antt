pub mod Behind
pub mod ShownTyped
