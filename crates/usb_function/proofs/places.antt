pub mod FirstPlaces
pub mod HolderIndexes
pub mod NumberedPlaces
pub mod ReachedPlaces
