pub mod Arguments
pub mod Tables
