pub mod Failing
