pub mod Layout
pub mod Plan
pub mod Reading
pub mod Refusal
pub mod Setting
pub mod Writing
