pub mod Capped
pub mod Numbered
pub mod Others
pub mod Putting
