mod CanonicalLists
mod CanonicalMaps
mod Powers
