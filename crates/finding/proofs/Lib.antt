pub mod StartLaws
pub mod SeekLaws
pub mod FindingLaws
