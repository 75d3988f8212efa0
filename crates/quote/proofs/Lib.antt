pub mod RowsLaws
pub mod QuoteLaws
pub mod QuoteTrip
pub mod PlacesLaws
pub mod ShowsLaws
