pub mod Growing
pub mod Leftward
