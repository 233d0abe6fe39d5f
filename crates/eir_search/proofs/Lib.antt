pub mod TryLaws
pub mod CountLaws
pub mod RunLaws
pub mod TakenLaws
