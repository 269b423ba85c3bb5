pub mod Calls
pub mod Checks
pub mod Joins
pub mod Patterns
