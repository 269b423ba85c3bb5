pub mod Concats
pub mod Emitted
pub mod Inputs
pub mod Outcome
pub mod Pairs
pub mod Tables
pub mod Tails
