pub mod Trips
pub mod Sums
pub mod Damage
pub mod Exact
pub mod Texts
