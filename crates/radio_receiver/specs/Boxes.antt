-- The type of a boxed receiver in definitions. Only the linked program knows which receivers it boxes. So a type that holds a box
-- has two parameters more, and a definition over it takes what its receiver stands for as an argument.
use Rattle.std.specs.declared.alloc.Global.{Global}
use Rattle.std.specs.declared.dyn_box.DynBox.{DynBox}

abbrev pub Boxed : (X : Type 0) → (X → Type 0) → Type 0
Boxed X F = DynBox X Global F
