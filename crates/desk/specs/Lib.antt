-- The desk: what each call answers and leaves, the words of the customer's demands, the page of promises, and 01's worked examples.
-- Read in this order.
pub mod Lent
pub mod BuildCall
pub mod LookCall
pub mod PairsCall
pub mod JudgeCall
pub mod Show
pub mod Terms
pub mod FalseBlock
pub mod Promises
pub mod Worked
