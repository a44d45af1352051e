pub mod Calls
pub mod Others
pub mod Stores
pub mod States
pub mod Values
