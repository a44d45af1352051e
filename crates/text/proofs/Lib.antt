pub mod Splits
pub mod Digits
pub mod Padding
pub mod Rounds
pub mod Tables
