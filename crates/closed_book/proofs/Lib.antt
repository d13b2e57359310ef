pub mod Tests
pub mod Pairs
pub mod Chunks
pub mod Places
pub mod Counts
