pub mod Forms
pub mod Grammar
pub mod Lines
pub mod Naming
pub mod Pieces
pub mod Reading
pub mod Rows
