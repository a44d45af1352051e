pub mod Records
pub mod Rings
pub mod Seen
