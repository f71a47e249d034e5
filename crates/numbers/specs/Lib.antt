pub mod Limits
pub mod Counts
pub mod Residues
pub mod Equal
pub mod Reducing
pub mod CountLaws
pub mod ResidueLaws
