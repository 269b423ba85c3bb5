pub mod Course
pub mod Meaning
pub mod Problem
pub mod Shown
pub mod Verdicts
