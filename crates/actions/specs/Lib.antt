pub mod Words
pub mod Actions
pub mod Views
