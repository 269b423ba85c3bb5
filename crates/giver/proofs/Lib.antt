pub mod Chain
pub mod Running
pub mod Spelling
