pub mod NumberLaws
pub mod PlacesLaws
pub mod SpreadLaws
pub mod SpreadTrip
pub mod ShowsLaws
