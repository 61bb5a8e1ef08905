-- What the bytes of a rule table and of a header mean, when a table is accepted, and which refusal it gets otherwise.
-- Read in this order.
pub mod Field
pub mod Action
pub mod Header
pub mod Refusal
pub mod Rule
pub mod Ports
pub mod Table
pub mod Match
pub mod Overlap
