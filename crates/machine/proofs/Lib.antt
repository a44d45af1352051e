pub mod Walks
pub mod Kept
pub mod Compared
