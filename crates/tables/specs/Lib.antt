pub mod Tables
pub mod Assigned
