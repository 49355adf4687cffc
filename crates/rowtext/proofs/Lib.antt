pub mod Example
pub mod ReportLaws
pub mod RowsLaws
