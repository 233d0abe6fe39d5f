mod VariableLaws
mod GavLaws
mod PairLaws
mod PositionLaws
