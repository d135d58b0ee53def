pub mod CaseFile
pub mod Examples
