pub mod Sums
pub mod Digits
mod Ignores
pub mod Peels
pub mod Factors
pub mod Counts
pub mod Covering
pub mod Walks
pub mod Skips
