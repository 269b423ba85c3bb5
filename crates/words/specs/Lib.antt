pub mod Layers
pub mod Machines
pub mod Membership
pub mod Shortest
pub mod Splitting
pub mod States
pub mod Words
