pub mod SameDomains
