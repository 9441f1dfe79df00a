pub mod Scans
pub mod Contents
pub mod Storing
pub mod Laws
pub mod Lasts
pub mod Appends
pub mod ScansLemmas
