pub mod Tolerances
pub mod Sets
pub mod Lines
pub mod Levels
pub mod Peels
pub mod Searches
pub mod Theorems
