-- A law of the part on storage and keys.
pub mod Parts
