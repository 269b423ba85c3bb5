pub mod Chains
pub mod Exactness
pub mod Finding
pub mod Living
pub mod Unique
