pub mod Product
pub mod Law
pub mod Places
pub mod Cutting
