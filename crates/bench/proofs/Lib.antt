pub mod Concats
pub mod Finite
pub mod Products
pub mod Realized
pub mod Running
pub mod Sheets
