pub mod EarliestExam
pub mod Exam
pub mod Numbers
