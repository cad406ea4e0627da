-- That a merge's contract is a step of a run.
mod Contracts
