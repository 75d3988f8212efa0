-- Lemmas on plain values for the proofs of this crate: `Cells` for stores at a run's place, `Calls` for what a step leaves.
mod Calls
pub mod Cells
