mod ForeignLaws
mod FoldLaws
