pub mod Texts
pub mod Answers
pub mod Messages
pub mod Boards
pub mod Pages
