pub mod Told
pub mod Fixed
pub mod Run
