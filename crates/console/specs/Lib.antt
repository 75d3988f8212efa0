pub mod Page
pub mod DeskLaws
