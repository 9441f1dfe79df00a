pub mod Reading
pub mod Names
