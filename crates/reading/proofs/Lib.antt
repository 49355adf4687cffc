pub mod FindLaws
pub mod LoopLaws
pub mod StepLaws
pub mod ViewLaws
pub mod WalkLaws
