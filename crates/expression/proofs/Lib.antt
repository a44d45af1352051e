pub mod ItemLists
pub mod Joins
pub mod Walks
