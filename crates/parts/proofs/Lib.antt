pub mod Bit
pub mod Tally
pub mod Alone
pub mod Lowest
pub mod Same
pub mod All
pub mod Numbers
