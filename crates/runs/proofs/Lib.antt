-- From the array of runs to the lent row, what is answered where too few are lent, and what the contracts of the calls settle.
pub mod LentLaws
mod Once
pub mod TooFew
