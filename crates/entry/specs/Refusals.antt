-- What each entry fault says.
use Rattle.std.specs.Prelude.{ℕ, List, ◌++◌, codes}
use Rattle.std.specs.Fmt.{decimal}
use Rattle.entry.specs.declared.faults.EntryFault.{EntryFault}
use Rattle.entry.specs.declared.faults.EntryFault.TheVariants.{Length, Digit}
use Rattle.fault.specs.declared.Layer.TheVariants.{Entry}
use Rattle.fault.specs.declared.Refusal.{Refusal}

-- the number, the layer and the places of a fault
abbrev pub refusal_of : EntryFault → Refusal
refusal_of (Length group length) = record { number = 18; layer = Entry; first = group; second = length }
refusal_of (Digit group position) = record { number = 19; layer = Entry; first = group; second = position }

-- where the entry is at fault
abbrev pub fault_text : EntryFault → List ℕ
fault_text (Length group length) = codes "group " ++ (decimal group ++ (codes ", length " ++ decimal length))
fault_text (Digit group position) = codes "group " ++ (decimal group ++ (codes ", position " ++ decimal position))
