pub mod ArgumentLaws
pub mod CutterLaws
pub mod GrammarLaws
pub mod LexemeLaws
pub mod NameLaws
pub mod NumberLaws
pub mod ReaderLaws
pub mod ScanLaws
