pub mod Declarations
pub mod Names
pub mod Rows
pub mod Schemas
pub mod Stamps
pub mod Tables
