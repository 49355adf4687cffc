pub mod ReportLaws
pub mod TextLaws
