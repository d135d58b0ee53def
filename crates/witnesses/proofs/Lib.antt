pub mod OneFrame
pub mod IsolationIsNotEmpty
pub mod TimedRuns
pub mod Readings
pub mod ChangesExist
pub mod Setup
