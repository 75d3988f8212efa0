pub mod Write
pub mod PutLaws
pub mod RowTextLaws
pub mod WriteLaws
pub mod RoundTrip
pub mod FirstBad
pub mod FirstBadLaws
