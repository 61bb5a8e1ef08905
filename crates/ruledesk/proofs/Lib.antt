-- The laws of the program's text, and of what it reads.
pub mod TextLaws
pub mod DecimalLaws
pub mod LineLaws
pub mod ProgramLaws
pub mod ReadingLaws
pub mod Determined
