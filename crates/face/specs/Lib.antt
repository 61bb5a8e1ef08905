-- What goes out to C and Rust: an answer by value, and a part of the caller's table.
pub mod Hands
pub mod Points
