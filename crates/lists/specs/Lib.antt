pub mod Each
pub mod Among
pub mod Few
