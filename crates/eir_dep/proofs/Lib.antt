mod MarkLaws
mod FirstLaws
mod GavLaws
