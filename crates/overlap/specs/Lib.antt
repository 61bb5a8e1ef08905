-- Two rules against each other: which pairs are listed, what a proposed order is and makes, and which moves are allowed.
-- Read in this order. The last two are the code's own steps: no statement of a public call cites them.
pub mod Pairs
pub mod Order
pub mod Judge
pub mod Steps
pub mod Obstacle
