pub mod Fronts
pub mod Trips
