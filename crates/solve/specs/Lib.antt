pub mod Builds
pub mod Finishing
pub mod Judging
pub mod Parts
pub mod Pieces
pub mod Report
pub mod Roots
pub mod Solving
