pub mod Sums
pub mod Graphs
pub mod Books
pub mod Refusals
