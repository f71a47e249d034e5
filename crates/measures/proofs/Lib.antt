pub mod Turned
pub mod Folds
mod LackWays
