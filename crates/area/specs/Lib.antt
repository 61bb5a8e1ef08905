-- The shape of an index record; and what the inner loops of the build do to an area, step by step: no public statement cites those,
-- `index` joins them to the image.
pub mod Shape
pub mod Upto
pub mod Grow
pub mod Growing
pub mod Hand
pub mod Sums
