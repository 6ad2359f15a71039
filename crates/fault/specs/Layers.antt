-- How a layer is called.
use Rattle.std.specs.Prelude.{ℕ, List, codes}
use Rattle.fault.specs.declared.Layer.{Layer}
use Rattle.fault.specs.declared.Layer.TheVariants.{Entry, Shelf, Packet, Engine, Program}

abbrev pub layer_name : Layer → List ℕ
layer_name Entry = codes "entry"
layer_name Shelf = codes "shelf"
layer_name Packet = codes "packet"
layer_name Engine = codes "engine"
layer_name Program = codes "program"
