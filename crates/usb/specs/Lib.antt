pub mod Formula
pub mod Layout
pub mod Reading
pub mod Refusal
pub mod Setting
pub mod Writing
