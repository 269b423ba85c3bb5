pub mod AllWords
pub mod Composing
pub mod Concats
pub mod Counting
pub mod Products
pub mod Realizing
pub mod Sameness
pub mod Walks
