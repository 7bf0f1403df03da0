pub mod Pieces
pub mod TurnLemmas
pub mod ProgressLemmas
pub mod Shut
pub mod Soundness
pub mod Counting
pub mod Carrying
pub mod Connecting
