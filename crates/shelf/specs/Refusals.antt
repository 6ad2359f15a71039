-- What each shelf fault says.
use Rattle.fault.specs.declared.Layer.TheVariants.{Shelf}
use Rattle.fault.specs.declared.Refusal.{Refusal}
use Rattle.shelf.specs.declared.faults.ShelfFault.{ShelfFault}
use Rattle.shelf.specs.declared.faults.ShelfFault.TheVariants.{TooSoon, HoldsWord, Loaded}

-- the number, the layer and the places of a fault
abbrev pub refusal_of : ShelfFault → Refusal
refusal_of (TooSoon service next) = record { number = 10; layer = Shelf; first = service; second = next }
refusal_of HoldsWord = record { number = 22; layer = Shelf; first = 0; second = 0 }
refusal_of Loaded = record { number = 23; layer = Shelf; first = 0; second = 0 }
