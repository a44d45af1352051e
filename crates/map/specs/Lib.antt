pub mod Codes
pub mod Orders
pub mod Boards
pub mod Laws
pub mod Pieces
pub mod Written
pub mod Maps
