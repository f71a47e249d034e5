pub mod Calls
mod Changing
pub mod Pasts
