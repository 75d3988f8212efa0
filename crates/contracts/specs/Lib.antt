pub mod ContentsLaws
pub mod HeaderLaws
pub mod Sound
pub mod SoundLaws
pub mod SoundTests
