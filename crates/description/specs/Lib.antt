pub mod Block
pub mod Described
pub mod Reading
pub mod Standing
