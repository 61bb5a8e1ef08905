-- Laws of the sample tables.
pub mod SampleLaws
