-- Proofs that the definitions of this crate rest on: a field comes with its laws. They stand here
-- because a definition cannot cite its own crate's proofs/. They only have to be checked.
pub mod Linear
pub mod Laws
