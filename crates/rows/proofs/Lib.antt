pub mod AnswerLaws
pub mod CounterLaws
pub mod CountLaws
pub mod FillLaws
pub mod RowLaws
