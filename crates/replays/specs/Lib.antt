pub mod Along
pub mod Calls
pub mod Changes
pub mod Replayed
