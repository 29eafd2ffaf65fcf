-- What a place owns: nothing, or the same as a `Box<Engine>`.
use base.Fml.{Fml, ftrue}
use Rattle.std.specs.Coded.{Coded, coded_option}
use denote.RawPtr.{Ptr}
use Rattle.std.specs.Prelude.{Option, Some, None}
use Rattle.std.specs.Box.Ownership.{box_owns}
use Rattle.std.specs.Global.{Global}
use Rattle.std_heap.specs.contracts.GlobalAllocator.TheImpl.{ghosts}
use Rattle.handles.specs.contracts.engine.Engine.{the_row}

abbrev pub place_owns : Global → Ptr → Option the_row.Denot → Fml
place_owns alloc at None = ftrue
place_owns alloc at (Some x) = box_owns (ghosts.dealloc_token alloc) the_row at x

abbrev pub place_coded : Coded (Option the_row.Denot)
place_coded = coded_option the_row.coded
