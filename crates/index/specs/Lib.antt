-- The index over a rule table: its records, word by word, and how many it needs. Nothing here follows a loop of the build.
-- Read in this order.
pub mod Key
pub mod Keys
pub mod Image
pub mod Need
pub mod Steps
