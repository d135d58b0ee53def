pub mod PageBytes
pub mod Pages
pub mod Lens
pub mod Codes
pub mod WhichTable
pub mod Courses
pub mod IntervalTimer
