-- The number, the layer and the places of each fault of the engine.
use Rattle.batch.specs.Faults.{engine_refusal, batch_refusal}
use Rattle.component.specs.declared.faults.ComponentFault.{ComponentFault}
use Rattle.component.specs.declared.faults.ComponentFault.TheVariants as component
use Rattle.fault.specs.declared.Refusal.{Refusal}
use Rattle.shelf.specs.Refusals.{refusal_of as shelf_refusal}
use Rattle.engine.specs.declared.faults.EngineFault.{EngineFault}
use Rattle.engine.specs.declared.faults.EngineFault.TheVariants.{Shelf, Batch, NoService, AlreadyOpen, BadGrant, NotOpen, PidRange, AlreadyJoined, TableFull, NotJoined, BadMoment, NoWord}

-- the faults of the shelf and of a batch say what they said there; the engine's own have no places
abbrev pub refusal_of : EngineFault → Refusal
refusal_of (Shelf f) = shelf_refusal f
refusal_of (Batch f) = batch_refusal f
refusal_of NoService = engine_refusal 1 0 0
refusal_of AlreadyOpen = engine_refusal 2 0 0
refusal_of BadGrant = engine_refusal 3 0 0
refusal_of NotOpen = engine_refusal 4 0 0
refusal_of PidRange = engine_refusal 5 0 0
refusal_of AlreadyJoined = engine_refusal 6 0 0
refusal_of TableFull = engine_refusal 7 0 0
refusal_of NotJoined = engine_refusal 8 0 0
refusal_of BadMoment = engine_refusal 9 0 0
refusal_of NoWord = engine_refusal 11 0 0

-- what a component that is not taken is to the engine
abbrev pub join_fault : ComponentFault → EngineFault
join_fault component.OutOfRange = PidRange
join_fault component.Joined = AlreadyJoined
join_fault component.Full = TableFull
