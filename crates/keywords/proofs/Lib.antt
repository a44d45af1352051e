pub mod Capped
pub mod Exchanges
pub mod Sieve
