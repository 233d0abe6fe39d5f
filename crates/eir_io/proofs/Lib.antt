pub mod PieceLaws
pub mod ShelfLaws
