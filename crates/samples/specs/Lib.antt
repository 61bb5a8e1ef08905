-- What is written into a sample table.
pub mod Sample
