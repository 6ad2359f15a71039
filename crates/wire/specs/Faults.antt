-- The number, the layer and the places of each fault of the program.
use Rattle.std.specs.Prelude.{ℕ}
use Rattle.engine.specs.Faults.{refusal_of as engine_fault_refusal}
use Rattle.fault.specs.declared.Layer.TheVariants.{Program}
use Rattle.fault.specs.declared.Refusal.{Refusal}
use Rattle.wire.specs.declared.faults.ProgramFault.{ProgramFault}
use Rattle.wire.specs.declared.faults.ProgramFault.TheVariants.{Engine, UnknownTag, BadValue, CutShort}

-- a refusal of the program's own layer
abbrev pub program_refusal : ℕ → Refusal
program_refusal number = record { number = number; layer = Program; first = 0; second = 0 }

-- the engine's fault says what it said there; the program's own have no places
abbrev pub refusal_of : ProgramFault → Refusal
refusal_of (Engine f) = engine_fault_refusal f
refusal_of UnknownTag = program_refusal 24
refusal_of BadValue = program_refusal 25
refusal_of CutShort = program_refusal 26
