pub mod Trips
pub mod Ends
