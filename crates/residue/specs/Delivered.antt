-- The fields of residues that are delivered. Assumes nothing.
use Rattle.field.specs.FiniteField.{FiniteField}
use Rattle.field.specs.Below.{Below}
use Rattle.residue.specs.Prime.{Prime}
use Rattle.residue.specs.Proofs.Primality.{prime_by}
use Rattle.residue.specs.Residues.{residues}

-- proved by a test of divisors that the checker computes
abbrev pub prime_2 : Prime 2
prime_2 = prime_by 2 2 tt tt tt tt tt

abbrev pub prime_65537 : Prime 65537
prime_65537 = prime_by 65537 257 tt tt tt tt tt

-- GF(2)
abbrev pub bits : FiniteField (Below 2)
bits = residues 2 prime_2

-- GF(65537)
abbrev pub fermat : FiniteField (Below 65537)
fermat = residues 65537 prime_65537
