-- Numbers and words, before any rule: what bytes say, what leads what, and which place is the lowest that passes a test.
pub mod Number
pub mod Path
pub mod Mask
pub mod Word
pub mod Tests
pub mod Writing
