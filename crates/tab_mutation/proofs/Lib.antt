pub mod Bodies
pub mod Firsts
pub mod Shapes
