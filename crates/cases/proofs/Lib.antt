pub mod CaseFiles
pub mod Codes
pub mod Answers
pub mod Examples
