pub mod CauseLaws
pub mod EditLaws
pub mod GoodLaws
pub mod ListLaws
pub mod StateLaws
pub mod VersionLaws
pub mod VersionSetLaws
