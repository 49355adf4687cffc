pub mod Formula
pub mod Layout
pub mod Reading
pub mod Refusal
pub mod Row
pub mod Setting
pub mod Table
pub mod Writing
