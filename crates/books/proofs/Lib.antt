mod Judging
mod Filing
pub mod Books
pub mod Spaces
