pub mod Tests
pub mod Appends
pub mod Scans
pub mod Sizes
pub mod Trips
pub mod Texts
