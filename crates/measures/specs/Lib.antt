pub mod Semiring
pub mod Kept
pub mod Lists
pub mod Beside
pub mod Meanings
