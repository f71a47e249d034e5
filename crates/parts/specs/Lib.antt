pub mod Limits
pub mod Sets
pub mod Picks
pub mod Bits
pub mod With
pub mod Lists
