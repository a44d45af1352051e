pub mod Books
pub mod Names
pub mod Refusals
pub mod Hosts
pub mod Records
