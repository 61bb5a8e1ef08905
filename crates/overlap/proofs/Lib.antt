-- The laws of this crate's definitions, for its own proofs and for the crates above.
pub mod SortedLaws
pub mod TriangleLaws
pub mod KeepLaws
pub mod PairLaws
pub mod OrderLaws
pub mod MadeOrders
pub mod JudgeLaws
pub mod MoveLaws
pub mod TableMoves
pub mod RecordLaws
pub mod ListedHeaders
pub mod LoopLaws
pub mod InverseLaws
pub mod ObstacleLaws
pub mod FindMapLaws
pub mod PutLaws
pub mod EntryLaws
