pub mod Slots
pub mod SlotsLaws
pub mod Places
