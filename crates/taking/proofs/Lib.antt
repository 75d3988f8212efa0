-- Lemmas on plain values for the proofs of this crate: `Steps` for runs, `Taking` for what a step leaves.
mod Steps
mod Taking
