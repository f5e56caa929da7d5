mod Aborting
mod AnswerLaws
mod Batches
mod FieldLaws
mod OnResults
mod RecordsOf
mod RowLaws
mod Sittings
