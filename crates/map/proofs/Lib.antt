pub mod Naming
pub mod Carried
pub mod Orderly
