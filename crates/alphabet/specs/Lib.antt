pub mod Labels
pub mod Text
pub mod Modem
pub mod Marking
