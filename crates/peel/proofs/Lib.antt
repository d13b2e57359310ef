pub mod Heights
pub mod Lines
pub mod Charges
pub mod Peels
pub mod Bests
pub mod Searches
