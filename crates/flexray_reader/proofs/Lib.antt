pub mod FrameLaws
pub mod ReadsLaws
pub mod StepLaws
