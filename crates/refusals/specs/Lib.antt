pub mod Numbers
pub mod Checked
