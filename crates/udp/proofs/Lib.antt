pub mod LaidLaws
pub mod PlanLaws
pub mod ReadLaws
pub mod SeenLaws
pub mod SettingLaws
pub mod WriteLaws
