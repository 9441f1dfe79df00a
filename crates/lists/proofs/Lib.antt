pub mod Tests
pub mod Members
pub mod Cuts
