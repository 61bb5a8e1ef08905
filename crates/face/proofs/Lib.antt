-- What the faces promise beyond their statements, and the laws that their proofs share.
pub mod HandsLaws
pub mod ByteLaws
pub mod PointsLaws
pub mod Determined
pub mod Enough
