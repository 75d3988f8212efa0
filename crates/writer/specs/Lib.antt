pub mod Chosen
pub mod Writer
pub mod WriterLaws
pub mod WriterPromises
pub mod WriterPromisesLaws
