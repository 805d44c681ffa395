-- The refusal that a pack error stands for. Assumes nothing.
use Rattle.book.specs.declared.refusal.Refusal.{Refusal}
use Rattle.book.specs.declared.refusal.Refusal.TheVariants.{OutputShort as no_room}
use Rattle.packing.specs.declared.error.PackError.{PackError}
use Rattle.packing.specs.declared.error.PackError.TheVariants.{Refused, OutputShort}

-- the refusal of the call that failed
abbrev pub refusal_of : PackError → Refusal
refusal_of (Refused r) = r
refusal_of OutputShort = no_room
