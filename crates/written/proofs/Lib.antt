pub mod HeartbeatsLaws
pub mod ReadBackLaws
pub mod ReadBackStepsLaws
pub mod WrittenRefusalsLaws
pub mod WrittenRowsLaws
pub mod WrittenShortestLaws
pub mod WrittenUpdateLaws
