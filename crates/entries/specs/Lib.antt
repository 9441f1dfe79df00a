pub mod Blocks
pub mod Heads
pub mod Entries
pub mod Scans
