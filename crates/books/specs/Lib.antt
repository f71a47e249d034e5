pub mod Over
pub mod Held
