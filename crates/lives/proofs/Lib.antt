-- What the proofs on lives rest on.
mod Calls
