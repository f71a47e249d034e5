pub mod States
pub mod Factored
pub mod Laws
