pub mod ColumnLaws
pub mod NameLaws
pub mod NumberLaws
pub mod PlaceLaws
pub mod SchemaLaws
pub mod SideLaws
pub mod StampLaws
pub mod TableLaws
