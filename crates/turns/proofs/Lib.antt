pub mod BoundLaws
pub mod MessagesLaws
pub mod ReachedLaws
