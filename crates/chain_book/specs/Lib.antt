pub mod Records
pub mod Meaning
pub mod Layout
pub mod Order
pub mod Once
pub mod Steps
pub mod Book
pub mod Laws
