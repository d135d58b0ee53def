-- Requests 3/12, the page desk, and 4/12, the first unbacked page: their definitions (`Reach`, `Extent`, `Desk`, `Unbacked`), and what is
-- proved of them.
pub mod Reach
pub mod Extent
pub mod Desk
pub mod Unbacked
pub mod Theorems
pub mod Questions
pub mod Calls
