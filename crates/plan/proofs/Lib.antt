pub mod CaseLaws
pub mod PlaceLaws
pub mod PlanLaws
