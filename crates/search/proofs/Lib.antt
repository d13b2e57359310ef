pub mod Walks
pub mod Tallies
pub mod Rounds
pub mod Peelings
pub mod Searchings
pub mod Listings
pub mod Finds
