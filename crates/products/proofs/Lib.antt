pub mod Tidied
pub mod Cuts
pub mod Counts
mod Cuttings
