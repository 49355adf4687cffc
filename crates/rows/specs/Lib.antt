pub mod Count
pub mod Counters
pub mod Fill
pub mod Rows
