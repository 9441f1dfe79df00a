pub mod Runs
pub mod Values
pub mod Tops
pub mod Trips
pub mod Own
pub mod Puts
