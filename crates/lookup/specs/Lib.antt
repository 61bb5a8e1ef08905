-- What lookup answers over any area at all, step by step, and what table and header alone fix. Nothing here knows how an area came about.
-- Read in this order.
pub mod Said
pub mod Answer
pub mod Walk
pub mod Scan
pub mod Look
pub mod InCode
