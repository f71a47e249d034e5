pub mod Products
pub mod Worths
pub mod Readings
