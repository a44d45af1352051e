pub mod Layouts
pub mod Listings
pub mod Lines
pub mod Writes
