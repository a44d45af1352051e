pub mod Machines
pub mod Runs
pub mod Calls
pub mod Courses
pub mod Laws
pub mod Examples
