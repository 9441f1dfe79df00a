pub mod Table
pub mod Storing
pub mod Laws
pub mod Lowest
pub mod Pairs
pub mod Writes
