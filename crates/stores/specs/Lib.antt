pub mod Numbers
pub mod Model
pub mod LookUps
pub mod Absents
pub mod Texts
pub mod Values
