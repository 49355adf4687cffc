pub mod FrameLaws
pub mod HeaderLaws
pub mod WritesLaws
