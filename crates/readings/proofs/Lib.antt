mod Worths
mod Ones
