mod PrefixLaws
mod ValueLaws
mod PositionLaws
mod NumberLaws
mod OpeningLaws
mod EqualLaws
mod ImageLaws
