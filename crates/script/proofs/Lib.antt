pub mod Parts
pub mod Records
pub mod Cutting
pub mod Sizes
pub mod Soundness
pub mod Texts
