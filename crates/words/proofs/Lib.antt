pub mod Cutting
pub mod Layers
pub mod Machines
pub mod Memberships
pub mod Renumbering
pub mod Spelling
pub mod Splits
pub mod States
