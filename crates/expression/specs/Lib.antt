pub mod Calls
pub mod Items
pub mod Sums
pub mod Tails
