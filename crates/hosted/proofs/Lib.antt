mod Once
pub mod AlikeLaws
pub mod HostAgreeLaws
pub mod HostCallsLaws
pub mod HostDemandsLaws
pub mod HostFieldsLaws
pub mod HostHistoriesLaws
pub mod HostItemsLaws
pub mod HostReadBackLaws
pub mod HostToldLaws
pub mod HostValuesLaws
pub mod ValuesBackLaws
