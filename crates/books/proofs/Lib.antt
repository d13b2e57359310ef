pub mod Sums
pub mod Links
pub mod Partners
