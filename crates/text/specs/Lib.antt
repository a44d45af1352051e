pub mod Bytes
pub mod Tables
pub mod Shorts
pub mod Words
pub mod Numbers
pub mod Order
pub mod Search
