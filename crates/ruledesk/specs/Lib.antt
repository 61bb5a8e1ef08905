-- The desk program: what its text is, whatever stands in `rules.bin` and whatever comes in.
pub mod Text
pub mod Lines
pub mod Program
pub mod Reading
pub mod InCode
