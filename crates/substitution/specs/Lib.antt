pub mod Gathering
pub mod Replaced
pub mod Scratches
pub mod Writing
