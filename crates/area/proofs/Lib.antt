-- The laws of the build's steps, for this crate's proofs and for the crate above.
pub mod UptoLaws
pub mod ZeroLaws
pub mod GrowLaws
pub mod HandLaws
pub mod SumLaws
