pub mod Clauses
pub mod Leads
pub mod Solid
pub mod Turning
