-- The laws of lookup, for its own proofs and for the crates above.
pub mod ScanLaws
pub mod ShapeLaws
pub mod WalkLaws
pub mod HeldLaws
pub mod MatchLaws
pub mod LookLaws
pub mod ReadLaws
pub mod WalkTurns
pub mod FieldTurns
pub mod BlockTurns
pub mod LookedLaws
pub mod AnsweredLaws
pub mod Demand2
