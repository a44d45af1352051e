pub mod Lines
pub mod Rest
pub mod Refusals
pub mod Judgement
pub mod Scripts
pub mod Views
