-- Proofs that the definitions of this crate rest on: a field comes with its laws, and a modulus
-- with a proof that it is prime. They stand here because a definition cannot cite its own crate's
-- proofs/. They only have to be checked.
pub mod Primality
pub mod Inverses
pub mod Laws
