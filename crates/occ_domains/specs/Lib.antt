-- What the contracts of the public functions lead to.
pub mod Bodies
pub mod Domains
pub mod Wholes
pub mod Tests
