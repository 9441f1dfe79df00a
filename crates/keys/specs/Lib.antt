pub mod Keys
pub mod SameKeys
pub mod Digests
pub mod Detects
pub mod Texts
