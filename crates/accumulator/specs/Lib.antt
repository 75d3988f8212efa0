pub mod Accumulator
pub mod BitsLaws
pub mod Linear
pub mod Powers
pub mod StepsLaws
pub mod Words
pub mod WordsLaws
