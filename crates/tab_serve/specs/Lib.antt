pub mod Moments
pub mod Turns
pub mod Progress
pub mod Serves
pub mod CoreAnswers
pub mod Serving
