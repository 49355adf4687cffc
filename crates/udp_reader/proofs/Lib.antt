pub mod ReadsLaws
pub mod StepLaws
