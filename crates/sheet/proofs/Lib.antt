pub mod Circles
pub mod Finding
pub mod Holding
pub mod Invariants
