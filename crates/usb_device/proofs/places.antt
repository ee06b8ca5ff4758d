-- Where devices stand in a row, and in a tree.
pub mod FirstPlaces
pub mod HolderIndexes
pub mod HolderPaths
pub mod Nodes
pub mod NumberedPlaces
pub mod PartedIndexes
pub mod ReachedPlaces
