pub mod Positions
pub mod EndLaws
pub mod LaidLaws
pub mod BookLaws
pub mod KeptLaws
pub mod PushLaws
pub mod Sound
