pub mod Filling
pub mod Least
