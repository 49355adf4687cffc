pub mod Page
pub mod Put
pub mod Text
